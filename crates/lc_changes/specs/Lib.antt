pub mod Merged
pub mod Changes
pub mod FileChanges
pub mod ChangeColumns
pub mod ChangeValues
pub mod ChangeSheets
pub mod KeptChanges
pub mod Laws
