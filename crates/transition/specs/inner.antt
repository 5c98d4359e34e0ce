-- What the contracts of private functions and the laws of `transition` cite beside the believed definitions.
pub mod Costs
pub mod Range
pub mod Track
