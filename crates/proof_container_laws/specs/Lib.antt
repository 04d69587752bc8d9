pub mod Containers
pub mod Footnotes
