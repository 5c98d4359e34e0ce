-- What loops over a range of numbers leave, and lists entry by entry.
pub mod Loops
pub mod Lists
