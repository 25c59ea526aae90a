pub mod CheckText
pub mod ExplainedText
pub mod Laws
pub mod Findings
pub mod Joined
pub mod Answers
