pub mod Families
pub mod Naming
