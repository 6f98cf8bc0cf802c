pub mod Finding
pub mod NameEntry
pub mod NameLaws
pub mod Owners
pub mod First
pub mod Indexes
pub mod IndexProofs
pub mod Comparing
