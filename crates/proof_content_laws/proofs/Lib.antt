pub mod Defined
pub mod Labels
pub mod Paragraph
pub mod Text
