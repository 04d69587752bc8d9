-- The lines of one leaf that are joined: what is known of their events.
pub mod Bare
pub mod Following
pub mod Cuts
pub mod Each
pub mod Framed
pub mod Inside
pub mod Lead
pub mod Leaf
pub mod Lines
pub mod Rest
pub mod Whole
