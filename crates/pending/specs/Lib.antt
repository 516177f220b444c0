pub mod Indices
pub mod Owned
pub mod Store
pub mod Trial
