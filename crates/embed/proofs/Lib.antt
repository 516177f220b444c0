mod Counting
mod ReadBack
mod Storing
mod Sources
mod Swept
mod Told
mod Written
