pub mod Steps
pub mod BadRanges
