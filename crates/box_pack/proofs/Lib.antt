mod Within
mod Counts
mod Steps
mod Results
pub mod Telling
