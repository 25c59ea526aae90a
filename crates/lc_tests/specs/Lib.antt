pub mod AnyListings
pub mod BytewiseContents
pub mod FailingContents
pub mod FailingTrees
pub mod Sketches
pub mod TrialReads
pub mod TrialWrites
