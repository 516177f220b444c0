pub mod Walks
pub mod Pushes
pub mod Positions
pub mod Reads
pub mod Fills
pub mod Calls
pub mod Histories
pub mod Offers
