pub mod Ascii
pub mod Columns
pub mod Kept
pub mod LaidOut
pub mod Portions
pub mod Runs
pub mod Turns
