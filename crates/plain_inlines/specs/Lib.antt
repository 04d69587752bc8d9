pub mod Given
pub mod PrintedForest
pub mod PrintedNodes
