pub mod LineRule
pub mod SoundParts
pub mod TextsNest
