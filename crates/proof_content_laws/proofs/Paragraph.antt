-- Paragraphs.
pub mod Laws
pub mod Valid
