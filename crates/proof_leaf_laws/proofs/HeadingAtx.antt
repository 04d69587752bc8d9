-- ATX headings: what is on their lines, and their laws.
pub mod Cells
pub mod Endings
pub mod Found
pub mod Hashes
pub mod Laws
pub mod Names
pub mod Nests
pub mod NoContent
pub mod Outside
pub mod Places
pub mod Plain
pub mod Runs
pub mod Spelled
pub mod Texts
pub mod Title
pub mod Trial
pub mod Words
