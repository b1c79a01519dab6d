pub mod Answers
pub mod Entering
