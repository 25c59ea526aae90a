pub mod BytesLeft
pub mod SameTexts
