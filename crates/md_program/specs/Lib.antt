pub mod Ends
pub mod Listing
pub mod Page
pub mod Printed
pub mod Sets
pub use Rattle.md_meaning.specs.Outline
