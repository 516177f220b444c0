mod Handed
mod Pulls
mod Bits
