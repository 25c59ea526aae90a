pub mod LinesOf
pub mod Plain
pub mod Appended
pub mod ShellWords
pub mod DotsDropped
pub mod ReadBack
pub mod Clear
