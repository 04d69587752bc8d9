-- The underline of a setext heading: what is on its line, and its laws.
pub mod Bytes
pub mod Kinds
pub mod Laws
pub mod Line
pub mod Runs
pub mod Span
pub mod Trial
pub mod Trimmed
