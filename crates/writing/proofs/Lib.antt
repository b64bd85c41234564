-- Laws of writing.
pub mod Written
pub mod Pieces
pub mod Lengths
pub mod Stored
