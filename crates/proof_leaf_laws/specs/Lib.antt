pub mod Front
pub mod DocumentRule
pub mod Leaf
pub mod Headed
