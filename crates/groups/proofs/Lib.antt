-- Laws of the definitions of `specs/`.
pub mod Onto
pub mod Reading
pub mod Closed
pub mod Rising
pub mod PathGroups
