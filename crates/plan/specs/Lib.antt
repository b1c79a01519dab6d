pub mod Scratch
pub mod Colors
pub mod Held
pub mod Steps
