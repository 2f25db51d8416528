pub mod Trimmed
pub mod Marks
pub mod LetterRows
pub mod Taking
pub mod Shortening
