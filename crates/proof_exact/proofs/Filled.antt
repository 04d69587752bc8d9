-- Each text part of the exact list is filled: none of its lines is blank, and the last has no ending.
mod Parts
mod LineTexts
mod LineParts
mod Leaves
mod TextSpans
mod Texts
mod Fronts
mod Rests
mod OpenText
mod RowTexts
mod Groups
mod Body
pub mod Exact
