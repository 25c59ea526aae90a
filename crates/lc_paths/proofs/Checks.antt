pub mod Directories
pub mod Ignoring
pub mod ExplainedLines
pub mod GivenWords
pub mod Dashes
pub mod Stopping
