-- What the contracts of private functions and the laws of `network` cite beside the believed definitions.
pub mod Compiled
pub mod Nodes
pub mod Sound
