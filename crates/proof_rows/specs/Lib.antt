pub mod WithoutMdx
pub mod BlockList
pub mod Fronted
pub mod Rows
pub mod Valid
pub mod TextRows
pub mod Unread
