-- Thematic breaks: what is on their lines, and their laws.
pub mod Facts
pub mod Found
pub mod Kinds
pub mod Laws
pub mod Runs
pub mod Trial
pub mod Unturned
