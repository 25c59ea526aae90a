pub mod OpenDirs
pub mod Explained
pub mod Findings
pub mod ExplainText
pub mod Answers
pub mod DirStacks
pub mod Laws
