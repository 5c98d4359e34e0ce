-- What the contracts of `closing` cite: what closing and reading a row answer.
pub mod Close
pub mod Row
pub mod inner
