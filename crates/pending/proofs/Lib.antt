pub mod Codes
pub mod Lowest
pub mod Senses
pub mod Stores
pub mod Trials
