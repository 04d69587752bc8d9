pub mod Nested
pub mod NoUnderline
pub mod PassLaws
pub mod Same
pub mod TextLaws
pub mod Unset
