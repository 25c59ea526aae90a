pub mod Stopping
pub mod Checks
pub mod Explanations
