mod Filled
mod Reached
