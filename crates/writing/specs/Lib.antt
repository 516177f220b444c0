pub mod Ready
pub mod Refusals
pub mod Calls
pub mod Histories
pub mod Laws
pub mod Tries
pub mod Endings
