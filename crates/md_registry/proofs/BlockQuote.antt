-- Block quotes.
pub mod Plain
