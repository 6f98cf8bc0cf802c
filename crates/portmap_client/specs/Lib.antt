pub mod Answer
pub mod Exchange
pub mod Fault
pub mod Laters
pub mod Registration
