pub mod Choices
pub mod Logs
