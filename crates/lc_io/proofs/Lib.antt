mod Exact
pub mod InPieces
pub mod KnownWrites
pub mod Runs
mod Taking
