-- Laws of the loops of `specs/`, and of lists.
pub mod Loops
pub mod Lists
pub mod Chains
