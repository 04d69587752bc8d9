-- Tables: a delimiter row, which turns the text before it, and further rows: what they become, and their laws.
pub mod Calls
