-- What the contracts of `text` and the laws of its `proofs/` speak of.
pub mod inner
