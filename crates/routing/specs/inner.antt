-- What the contracts of private functions and the laws of `routing` cite beside the believed definitions.
pub mod Blocks
pub mod Goals
pub mod Search
