pub mod Asked
pub mod Carrying
pub mod Idle
pub mod Turns
