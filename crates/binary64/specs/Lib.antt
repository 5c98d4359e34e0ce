-- What the contracts of `binary64` cite: kinds of values, rounded operations and ranges.
pub mod Values
pub mod Operators
pub mod Ranges
pub mod inner
