pub mod Last
pub mod Unlisted
