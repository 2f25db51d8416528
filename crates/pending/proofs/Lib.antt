pub mod Looking
pub mod Stacks
pub mod Innermost
pub mod Nexts
pub mod Flats
