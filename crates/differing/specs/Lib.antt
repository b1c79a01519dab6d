pub mod Positions
pub mod Filling
pub mod Nexts
