pub mod Calls
pub mod LineRule
pub mod Nests
