pub mod Faults
pub mod Lines
pub mod Names
pub mod Ranks
pub mod Reach
