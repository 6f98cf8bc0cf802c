pub mod Adapters
pub mod Asking
pub mod Device
pub mod Flush
pub mod Limit
pub mod Once
