-- What the contracts of private functions and the laws of `replaying` cite beside the believed definitions.
pub mod Comparing
