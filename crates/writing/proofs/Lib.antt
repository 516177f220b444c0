pub mod StandingWalks
pub mod Aheads
pub mod Readies
pub mod Tried
pub mod Ended
pub mod Written
