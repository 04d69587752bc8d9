pub mod FootnoteLaw
pub mod LineLemmas
