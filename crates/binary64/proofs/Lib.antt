-- Laws of binary64, for any format. Each file's first lines say what it shows.
pub mod Order
pub mod Sum
pub mod Same
pub mod Costs
pub mod Bounds
pub mod Ranges
pub mod Patterns
