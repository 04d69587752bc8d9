pub mod PlaceLemmas
pub mod OnLine
pub mod PieceLemmas
pub mod WholePlaces
mod LeafRows
mod TextRows
mod ContainerRows
mod ListRows
mod NestedRows
mod MeetingRows
mod AlertRows
