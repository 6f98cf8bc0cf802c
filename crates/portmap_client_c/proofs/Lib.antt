mod Offsets
mod NextLine
pub mod ListSizes
