pub mod Creation
pub mod Rows
pub mod Indexes
pub mod Table
pub mod Laws
