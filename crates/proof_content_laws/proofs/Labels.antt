-- The labels of a text, as its events and its tree have them.
pub mod Footnotes
pub mod Groups
pub mod Kept
pub mod Off
pub mod Reading
pub mod Text
pub mod Trees
