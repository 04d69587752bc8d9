-- Events: what a list of them must be, and how it is read.
--
-- It is what a reader has to believe of the answer of a parse, in reading order: where a point may be; when a list
-- nests; what a part may mean for the tree, what pieces are over, and words of names; all that is said of each name, of
-- these; what an inline layer may put in the place of a text; which names a name may be in; what each piece is over,
-- and that every byte is in one; which ending ends a blank line; which names a container prefix has; how a list tiles a
-- text; which tree it spells out, what a text shows there, that no construct is in it that is off; and which events are
-- of blocks.
pub mod Places
pub mod Nested
pub mod Roles
pub mod PieceRules
pub mod Words
pub mod Names
pub mod Inline
pub mod Grammar
pub mod Pieces
pub mod Held
pub mod Endings
pub mod Prefix
pub mod Tiles
pub mod Spelled
pub mod Recorded
pub mod Blocks
pub mod Throughout
pub mod On
