pub mod Phrases
pub mod Laws
pub mod Unwinding
pub mod Stack
