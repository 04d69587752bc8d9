pub mod Endings
pub mod Footnoted
