-- Laws of the definitions of `specs/`.
pub mod Bytes
pub mod Words
pub mod Numbers
pub mod Floats
pub mod Reading
pub mod Written
pub mod Back
pub mod Lists
pub mod Examples
pub mod Keywords
