pub mod Descents
pub mod Leading
pub mod Chosen
pub mod Versions
