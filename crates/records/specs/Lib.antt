pub mod Causes
pub mod Classes
pub mod Statements
pub mod Stretches
pub mod Texts
