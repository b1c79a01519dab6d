pub mod Ends
pub mod Finding
