pub mod Deleting
pub mod Present
