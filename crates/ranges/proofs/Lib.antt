pub mod Digging
pub mod Limits
