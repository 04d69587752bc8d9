-- The underline of a setext heading: what is on its line, and its laws.
pub mod Found
