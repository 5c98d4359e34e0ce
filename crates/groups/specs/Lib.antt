-- What the contracts of `groups` speak of.
pub mod Groups
pub mod inner
