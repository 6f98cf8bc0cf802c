pub mod Sending
pub mod Pulling
pub mod Replying
pub mod Asking
pub mod PutsOn
