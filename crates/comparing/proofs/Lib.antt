pub mod Ordering
pub mod Answering
