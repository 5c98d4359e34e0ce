-- What the contracts of `journal` and the laws of its `proofs/` speak of.
pub mod Lists
pub mod Row
pub mod Ranges
pub mod Record
pub mod Journal
pub mod Call
pub mod Buffer
pub mod WellFormed
pub mod inner
