pub mod Built
pub mod Events
pub mod PrintedEvents
