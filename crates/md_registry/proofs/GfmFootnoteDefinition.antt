-- Footnote definitions.
pub mod Plain
