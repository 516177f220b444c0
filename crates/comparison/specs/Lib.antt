pub mod Law
pub mod Beside
