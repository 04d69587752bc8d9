-- Events that nest still do after the resolvers.
pub mod All
pub mod Cells
pub mod Fits
pub mod FitsInOrder
pub mod Headings
pub mod Leads
pub mod Tables
pub mod Turns
