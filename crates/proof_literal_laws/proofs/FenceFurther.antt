-- Further lines of fenced code and of math: what is on them, and their laws.
pub mod Cells
pub mod Definition
pub mod Grammar
pub mod Inside
pub mod Joined
pub mod Laws
pub mod Names
pub mod Parts
pub mod Places
pub mod Reads
pub mod Shown
pub mod Trial
