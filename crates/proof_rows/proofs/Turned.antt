-- The laws of a text that an underline turns into a heading.
pub mod Cut
pub mod CutReads
pub mod Events
pub mod Facts
pub mod Gap
pub mod Line
pub mod Reads
pub mod Valid
pub mod Text
pub mod TextReads
pub mod Turns
pub mod Under
