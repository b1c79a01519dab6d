pub mod Raised
pub mod Released
