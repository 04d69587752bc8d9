-- The containers, each with what the frame asks of it.
pub mod BlockQuote
pub mod GfmFootnoteDefinition
pub mod ListItem
