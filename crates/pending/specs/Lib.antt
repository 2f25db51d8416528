pub mod Did
pub mod Origin
pub mod Pending
pub mod Take
pub mod Levels
