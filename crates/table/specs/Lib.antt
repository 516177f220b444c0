pub mod Description
pub mod Fields
pub mod First
pub mod Kinds
pub mod Limits
pub mod Loading
pub mod Tests
pub mod Words
