pub mod Marks
pub mod Forest
pub mod Woven
pub mod Tokens
pub mod Cursor
pub mod Room
pub mod SidesOf
pub mod TreeTexts
