pub mod Notices
pub mod Outcome
pub mod Refused
pub mod Remote
pub mod Showing
