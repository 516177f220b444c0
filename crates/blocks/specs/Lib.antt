pub mod Faults
pub mod Nesting
pub mod Sound
pub mod Stretches
