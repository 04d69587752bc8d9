pub mod AtOnce
pub mod WholeLines
