-- The labels of a text, as its events and its tree have them.
pub mod Leaves
