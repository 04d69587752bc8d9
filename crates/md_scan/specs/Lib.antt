pub mod Definitions
pub mod Words
