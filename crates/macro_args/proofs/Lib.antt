pub mod BraceLaws
pub mod MatchingLaws
pub mod PlaceLaws
pub mod ScanLaws
mod Examples
pub mod ShortestLaw
