pub mod Contents
mod Joining
pub mod NamedLists
pub mod NodesIn
pub mod OneAnswer
pub mod OneOrder
pub mod SomeNames
pub mod Sorting
mod SysLooked
