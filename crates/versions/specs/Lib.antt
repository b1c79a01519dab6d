pub mod Free
pub mod Slots
