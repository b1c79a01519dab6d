pub mod Holdings
pub mod Growing
pub mod Looking
pub mod Sounding
pub mod Worded
