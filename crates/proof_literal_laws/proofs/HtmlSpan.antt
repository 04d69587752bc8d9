-- HTML with all its lines, joined: what is on a line, what further lines become, and the laws.
pub mod Laws
pub mod Lines
pub mod Rows
pub mod Walk
