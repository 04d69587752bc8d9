pub mod PassWalk
pub mod Texted
