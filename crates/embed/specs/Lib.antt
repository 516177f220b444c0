pub mod Numbers
pub mod Checking
pub mod Folding
pub mod Sources
pub mod Gets
pub mod Told
pub mod Writing
