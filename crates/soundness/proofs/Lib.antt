pub mod NodeWords
pub mod Verdicts
