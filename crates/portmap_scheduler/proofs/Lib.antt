pub mod Times
pub mod Steps
pub mod Calls
pub mod Turns
