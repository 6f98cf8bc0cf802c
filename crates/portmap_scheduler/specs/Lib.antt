pub mod Links
pub mod Runs
pub mod Lends
pub mod Tracked
pub mod Whole
