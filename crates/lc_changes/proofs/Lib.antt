mod ByPath
mod CountedOnce
mod Differences
mod FilesCompared
mod KeptParts
mod Merging
mod OneComparison
mod Orders
mod RowsCompared
mod Searching
mod SelfLaw
mod TablesLaw
pub mod Attributes
