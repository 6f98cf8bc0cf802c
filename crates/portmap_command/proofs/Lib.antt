pub mod Digits
pub mod Lists
pub mod Listening
pub mod PlanLemmas
pub mod Completing
pub mod Pieces
pub mod Recordings
pub mod Checking
