pub mod Pushing
pub mod Remade
