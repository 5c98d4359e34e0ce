-- What the contracts of private functions and the laws of `binary64` cite beside the believed definitions.
pub mod Values
