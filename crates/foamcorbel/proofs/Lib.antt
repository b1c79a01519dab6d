pub mod Steps
pub mod ResultLaws
