pub mod Listed
pub mod Emptied
pub mod Whole
