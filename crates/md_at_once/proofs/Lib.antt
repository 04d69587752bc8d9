pub mod ContentLines
pub mod FenceLines
pub mod FlowRuns
pub mod HtmlLines
mod LateAttempt
pub mod LineEnds
pub mod NoClose
pub mod NoIndent
pub mod NoLabel
pub mod TakenBack
pub mod WantOfMemory
pub mod WhiteEnds
pub mod WholeLines
