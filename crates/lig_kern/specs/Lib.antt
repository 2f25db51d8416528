pub mod Elements
pub mod Rewriting
pub mod WordOf
pub mod Settling
pub mod Histories
pub mod Sources
pub mod Examples
