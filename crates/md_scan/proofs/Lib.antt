pub mod DefinitionLemmas
mod FoldLemmas
pub mod TextWords
pub mod WordLemmas
