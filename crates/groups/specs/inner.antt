-- What the contracts of private functions and the laws of `groups` cite beside the believed definitions.
pub mod Gather
