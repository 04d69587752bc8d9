-- The lines of a text that are joined and read later: what is known of their events.
pub mod ChunkStays
pub mod MayPart
pub mod Unread
