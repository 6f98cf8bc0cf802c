pub mod Status
pub mod Writing
pub mod Answers
pub mod Lists
pub mod Calls
