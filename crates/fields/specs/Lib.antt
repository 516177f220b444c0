pub mod Lines
pub mod Nodes
pub mod Tables
pub mod Values
