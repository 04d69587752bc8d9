-- Block quotes that are alerts: the prefix of the line on which one opens.
pub mod Events
pub mod Facts
pub mod Grammar
pub mod Pieces
pub mod Places
