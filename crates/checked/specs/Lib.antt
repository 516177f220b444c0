pub mod Chains
pub mod Check
pub mod Faultless
pub mod Fields
pub mod Law
pub mod Making
pub mod Sound
