-- Lines that lose columns of whitespace before a part that reaches to their end: of fenced code, math, code and HTML.
pub mod Columns
pub mod Facts
pub mod Grammar
pub mod Names
pub mod Parts
pub mod Reads
pub mod Sites
