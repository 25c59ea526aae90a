pub mod Styles
pub mod Input
pub mod CheckFaults
pub mod AnswerLines
pub mod Paths
pub mod Answers
pub mod Checks
pub mod Explanations
