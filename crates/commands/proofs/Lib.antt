pub mod Finding
pub mod Parsing
pub mod Spaced
