pub mod Alone
pub mod HeadingsNest
pub mod InOrder
pub mod Left
pub mod Nests
pub mod TablesNest
pub mod TurnsNest
