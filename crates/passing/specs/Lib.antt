pub mod Walks
pub mod Differences
pub mod Results
