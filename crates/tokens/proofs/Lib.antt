pub mod Borrowed
pub mod Search
pub mod Linking
pub mod Interning
pub mod Parts
