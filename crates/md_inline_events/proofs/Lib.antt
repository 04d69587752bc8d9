pub mod CursorLemmas
pub mod TokenLemmas
pub mod StretchLemmas
pub mod ChunkSteps
pub mod LineSteps
pub mod SpanSteps
pub mod LineLemmas
