pub mod Classes
pub mod Faults
pub mod Rows
pub mod Uses
