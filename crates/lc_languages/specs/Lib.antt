pub mod InLanguages
pub mod Languages
