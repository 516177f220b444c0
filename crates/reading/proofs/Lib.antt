mod Members
mod Endings
mod BitAt
mod Entering
pub mod Stepping
pub mod Taking
mod Turns
pub mod Enclosing
mod Opening
pub mod Nexts
mod Filling
pub mod Heights
pub mod Tellings
