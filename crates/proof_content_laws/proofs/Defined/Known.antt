-- What is known of the parts of a definition, and of all of it.
pub mod Enclosed
pub mod Gap
pub mod Inside
pub mod Label
pub mod Leaf
pub mod Left
pub mod Marks
pub mod Passes
pub mod Plain
pub mod Target
pub mod Texts
pub mod Title
