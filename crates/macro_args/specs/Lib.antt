pub mod ParameterText
pub mod BraceCount
pub mod Arguments
pub mod Scanning
pub mod Shortest
