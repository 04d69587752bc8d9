-- Opening lines of fenced code and of math: what is on them, and their laws.
pub mod Adds
pub mod Cells
pub mod Each
pub mod Facts
pub mod Found
pub mod Kept
pub mod Laid
pub mod Laws
pub mod Opened
pub mod Outside
pub mod Reads
pub mod Trial
pub mod Walk
pub mod White
pub mod Words
