-- Indented code: what is on its lines, and on blank ones where it is open, and their laws.
pub mod Blank
pub mod Cells
pub mod Closed
pub mod Facts
pub mod Found
pub mod Grammar
pub mod Laws
pub mod Lines
pub mod Look
pub mod Outside
pub mod Parts
pub mod Reads
pub mod Rows
pub mod Span
pub mod Split
pub mod Trial
pub mod Walk
