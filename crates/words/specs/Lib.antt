pub mod Layout
pub mod Counting
pub mod Reads
pub mod Sound
pub mod Owned
pub mod Model
pub mod Fresh
pub mod Commit
