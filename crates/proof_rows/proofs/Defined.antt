pub mod Cells
pub mod Cut
