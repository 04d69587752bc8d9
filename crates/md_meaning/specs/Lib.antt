-- The line definition: which block tree a text means, and which labels it defines.
--
-- It is what a reader has to believe of Markdown itself, beside CommonMark and the specification of GitHub's
-- extensions, and it is here in reading order: what a tree is; a text as lines, and the rest of a line; the grammars of
-- single constructs; which leaf starts on a rest; what is open between two lines, and what a line does to it; the tree
-- of a whole text, and its outline.
pub mod Ascii
pub mod Tree
pub mod Lines
pub mod Texts
pub mod Bytes
pub mod Rest
pub mod Enclosed
pub mod Html
pub mod Definition
pub mod Table
pub mod Label
pub mod State
pub mod Preamble
pub mod Alert
pub mod Containers
pub mod Leaves
pub mod Step
pub mod Grouped
pub mod Meaning
pub mod Outline
pub mod Wrapped
