pub mod Pages
pub mod Making
pub mod Calls
pub mod Histories
