-- Laws of the definitions of `specs/`.
pub mod Records
pub mod Best
pub mod Steps
pub mod Storing
pub mod Rows
pub mod Predecessor
pub mod Room
pub mod Closing
