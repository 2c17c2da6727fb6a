pub mod CallerLaws
pub mod Deliveries
