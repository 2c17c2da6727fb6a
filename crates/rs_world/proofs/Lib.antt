pub mod Deliveries
pub mod Opened
pub mod Places
pub mod SitePlaces
pub mod Views
