pub mod Listed
pub mod Stacks
pub mod Tops
pub mod Entries
pub mod Diving
pub mod Parting
pub mod Starting
