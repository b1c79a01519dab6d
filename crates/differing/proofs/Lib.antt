pub mod Descents
pub mod Nexts
pub mod Versions
pub mod Answering
