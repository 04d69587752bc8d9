-- Fenced code and math with all their lines, joined: what is known of them, and their laws.
pub mod First
pub mod Further
pub mod Laws
pub mod Open
pub mod Opening
pub mod Rest
pub mod OutlineSites
pub mod Walk
pub mod White
