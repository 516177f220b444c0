mod Loaded
mod Numbered
pub mod Booleans
pub mod Chained
pub mod Firsts
pub mod Held
pub mod Nest
pub mod Owned
pub mod Ranks
pub mod Sounds
