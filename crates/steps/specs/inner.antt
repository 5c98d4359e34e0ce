-- What the contracts of private functions and the laws of `steps` cite beside the believed definitions.
pub mod Find
pub mod Tables
