-- Lines that lose columns of whitespace before a part that reaches to their end.
pub mod Columns
pub mod Placed
pub mod Places
pub mod Reads
pub mod Shown
