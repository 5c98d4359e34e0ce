-- What the contracts of private functions and the laws of `decoder` cite beside the believed definitions.
pub mod Plan
pub mod StepRange
