pub mod ChildLinks
pub mod Prefixes
pub mod Registers
pub mod Linked
pub mod Places
pub mod Examples
