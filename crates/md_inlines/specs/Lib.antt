-- Inline constructs by their bytes, in the order of the standard (CommonMark 2, 6, GFM 5.3, 6.5, 6.9).
--
-- A text has no container prefixes, no indents, and LF as its only line ending. Each construct is given from a byte on,
-- and is so many bytes of it; what is left is the rest of the text.
pub mod Characters
pub mod Escape
pub mod Code
pub mod Flanking
pub mod Target
pub mod Autolink
pub mod RawHtml
pub mod Breaks
pub mod Task
pub mod Literal
-- The inline definition: which forest a text has (CommonMark 6, GFM 5.3, 6.5, 6.9), in reading order: what binds
-- tightest at a place; emphasis among the items of a level; brackets; literal addresses in what is text; all of a
-- text.
pub mod Atoms
pub mod Emphasis
pub mod Targets
pub mod Brackets
pub mod Emails
pub mod Content
-- What contracts of the functions over bytes cite besides.
pub mod Addresses
pub mod Classes
