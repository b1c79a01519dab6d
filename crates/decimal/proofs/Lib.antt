pub mod Digits
pub mod Finding
pub mod Numbers
pub mod Writing
