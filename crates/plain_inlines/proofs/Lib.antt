pub mod GivenLemmas
pub mod PrintedLemmas
