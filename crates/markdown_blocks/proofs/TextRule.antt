-- What is left at the first states of definitions and paragraphs.
pub mod Lines
pub mod Definition
pub mod Paragraph
pub mod Texts
pub mod Calls
pub mod OnText
pub mod Inside
pub mod Met
