pub mod Own
pub mod Standing
pub mod Writing
pub mod Rule
pub mod Least
pub mod Trial
