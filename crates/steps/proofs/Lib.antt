pub mod Takes
pub mod Sizes
pub mod Naturals
pub mod Bounds
pub mod Read
pub mod MapRead
pub mod Multiples
