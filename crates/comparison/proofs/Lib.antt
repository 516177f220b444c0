pub mod Handed
pub mod Compared
