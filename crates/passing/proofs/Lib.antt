pub mod AnswersPassed
pub mod WalkRead
pub mod DifferencesPassed
