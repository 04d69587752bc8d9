-- ATX headings: what is on their lines, and their laws.
pub mod Calls
pub mod Rests
