-- The laws of items and of texts that are one expression.
pub mod Atoms
pub mod Closings
