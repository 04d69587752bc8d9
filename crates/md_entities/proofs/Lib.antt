pub mod TableLemmas
mod Rows
