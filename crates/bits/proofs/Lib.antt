pub mod Gets
pub mod ListLaws
pub mod Numbers
pub mod Puts
pub mod UnitBits
pub mod Zeros
