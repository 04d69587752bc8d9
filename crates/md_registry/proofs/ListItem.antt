-- List items.
pub mod Plain
