-- What the contracts of private functions and the laws of `bridges` cite beside the believed definitions.
pub mod Found
