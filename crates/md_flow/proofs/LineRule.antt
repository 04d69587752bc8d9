pub mod Calls
pub mod Events
pub mod Leaf
pub mod Lines
pub mod Prefix
pub mod Refused
pub mod Role
