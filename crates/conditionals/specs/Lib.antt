pub mod Word
pub mod Branches
pub mod Skipping
pub mod Conditions
