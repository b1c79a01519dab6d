pub mod Places
pub mod Existing
pub mod Model
pub mod Rows
