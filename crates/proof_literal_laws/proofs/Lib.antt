pub mod CodeIndented
pub mod Fence
pub mod FenceFurther
pub mod FenceSpan
pub mod HtmlFlow
pub mod HtmlSpan
pub mod IndentRemoved
pub mod LeafRead
