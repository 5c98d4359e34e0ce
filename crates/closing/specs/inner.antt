-- What the contracts of private functions and the laws of `closing` cite beside the believed definitions.
pub mod Walk
