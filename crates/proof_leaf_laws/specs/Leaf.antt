-- The leaves, each with what the frame asks of it: those on one line (`LineLeaf`), and text (`TextLeaf`).
pub mod HeadingAtx
pub mod HeadingSetext
pub mod ThematicBreak
pub mod GfmTable
