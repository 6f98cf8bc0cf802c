pub mod Carrying
pub mod Peers
