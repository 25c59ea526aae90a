pub mod AttributeColumns
pub mod Formats
pub mod Keys
pub mod ColumnWords
pub mod Values
pub mod Sheets
pub mod Conditions
pub mod ChangeKinds
