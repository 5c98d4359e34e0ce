-- Laws of the definitions of `specs/`.
pub mod Lists
pub mod Rules
pub mod Product
pub mod LengthTable
pub mod Stores
pub mod Buffers
pub mod Gathered
pub mod Reading
pub mod WellFormed
pub mod HighHalf
pub mod Tests
pub mod Records
pub mod RecordRead
pub mod Walk
pub mod Ends
pub mod Preceding
pub mod Places
