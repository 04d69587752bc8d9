-- Runs of one marker and of whitespace, whatever the name of the markers is.
pub mod Each
pub mod Fits
pub mod Items
