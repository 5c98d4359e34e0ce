-- What the contracts of private functions and the laws of `text` cite beside the believed definitions.
pub mod Bytes
pub mod Cursor
pub mod Floats
pub mod Keywords
pub mod Lists
pub mod Numbers
pub mod Window
pub mod Words
pub mod Written
