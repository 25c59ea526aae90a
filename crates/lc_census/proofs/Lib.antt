mod Bits
mod Blank
mod Counts
pub mod OneCutting
mod Rest
mod Small
mod Tells
mod Words
