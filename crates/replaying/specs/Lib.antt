-- What the contracts of `replaying` and its theorem cite: replaying a journal, and what its answer says of lists of calls.
pub mod Replay
pub mod Replayed
pub mod inner
