pub mod Command
pub mod Groups
pub mod Letters
pub mod Messages
pub mod Showing
pub mod Spaces
pub mod Execute
