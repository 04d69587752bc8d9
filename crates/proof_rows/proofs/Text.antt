-- The lines of a text that are joined and read later: what is known of their events.
pub mod Cut
pub mod Cuts
pub mod Endings
pub mod Facts
pub mod Names
pub mod Order
pub mod Parted
pub mod Parts
pub mod Pieces
pub mod Reads
pub mod Valid
pub mod Words
