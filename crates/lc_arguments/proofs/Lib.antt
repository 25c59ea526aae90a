mod AskedDirectories
mod AskedPaths
mod ConditionsRead
mod Misnaming
mod NamedReports
mod CommandRules
mod ReadValues
mod WordFaults
pub mod ColumnNames
mod NewNames
mod AsciiNames
mod Paragraphs
