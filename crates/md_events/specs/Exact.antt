-- The exact list of events of a text, from its lines, in reading order.
--
-- `Places`: the lines of a text, and the pieces of a line. `Prefixes`: the containers of a line, and what they take of
-- it. `Rows`: what each line is after them, and which containers end after it. `Leaves`: the events of leaves, line by
-- line. `Texts`: definitions, paragraphs and headings of several lines. `Blocks`: the front of a text, which lines are
-- one leaf, and the events of the whole.
pub mod Places
pub mod Prefixes
pub mod Rows
pub mod Leaves
pub mod Texts
pub mod Blocks
