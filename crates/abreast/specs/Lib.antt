pub mod Alike
pub mod Sides
