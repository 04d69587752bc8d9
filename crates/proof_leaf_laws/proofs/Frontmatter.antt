-- The laws of frontmatter: what its rule takes of the cells of a line, and what is known of its events.
pub mod Found
pub mod Lines
pub mod Parts
pub mod Taken
pub mod Whole
