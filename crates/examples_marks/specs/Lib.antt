pub mod References
pub mod Listed
