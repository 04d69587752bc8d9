-- The texts of a definition, over their lines: what is known of their events.
pub mod Facts
pub mod Lines
pub mod Parted
pub mod Parts
pub mod Places
pub mod Reads
pub mod Whole
pub mod Words
