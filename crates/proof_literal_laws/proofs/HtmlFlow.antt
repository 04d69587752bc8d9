-- HTML: what its lines become, the line that begins it and further ones, and their laws.
pub mod Cells
pub mod Found
pub mod Laws
pub mod Outside
pub mod Trial
