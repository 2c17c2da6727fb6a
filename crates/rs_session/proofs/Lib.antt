pub mod Books
pub mod Divided
pub mod PutSessions
