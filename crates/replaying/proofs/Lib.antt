-- Laws that the proofs of `replaying` cite, and the theorem about its answers.
pub mod Same
pub mod Standing
pub mod Stretches
pub mod Answers
pub mod Refed
pub mod Differing
pub mod Feeds
pub mod Replayed
