pub mod Committing
pub mod Editing
pub mod Outcomes
pub mod Taking
