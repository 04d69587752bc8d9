-- Lines of runs of one marker and of whitespace, after a small indent: thematic breaks, and underlines of setext
-- headings.
pub mod Cells
pub mod Line
