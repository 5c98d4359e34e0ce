-- What the contracts of private functions and the laws of `segments` cite beside the believed definitions.
pub mod Building
pub mod Oscillation
pub mod Trail
pub mod Turn
