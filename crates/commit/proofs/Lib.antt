pub mod Parts
pub mod Counted
pub mod Lifted
pub mod Placed
pub mod Planning
