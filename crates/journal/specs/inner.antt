-- What the contracts of private functions and the laws of `journal` cite beside the believed definitions.
pub mod Buffer
pub mod Check
pub mod Fix
pub mod LengthTable
pub mod Row
pub mod Rows
pub mod Strike
