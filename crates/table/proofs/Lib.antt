pub mod Entries
mod Files
mod Rows
pub mod Scans
