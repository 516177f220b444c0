pub mod Names
pub mod Operations
pub mod Scopes
