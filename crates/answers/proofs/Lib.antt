pub mod Entries
pub mod Finding
