pub mod PrefixLemmas
pub mod Linking
pub mod Placing
pub mod Counting
pub mod Shaping
pub mod Paths
pub mod Changing
pub mod NodeCount
