-- Laws of a thread's entries.
pub mod Holes
pub mod Renewings
pub mod Makings
pub mod Moving
pub mod Counts
pub mod Ruled
