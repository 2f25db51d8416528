pub mod Cursors
pub mod Growing
pub mod Order
pub mod WorkedWords
