-- What the contracts of private functions and the laws of `rows` cite beside the believed definitions.
pub mod Scoring
pub mod Sides
