pub mod Bits
pub mod Get
pub mod Laws
pub mod Make
pub mod Put
pub mod Refusals
pub mod Units
pub mod Zero
