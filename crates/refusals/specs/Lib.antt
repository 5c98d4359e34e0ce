-- What the contracts of `refusals`, and of all calls that can be refused, cite.
pub mod Refusals
