-- The laws of the refusals of an operator's text, and of its read.
pub mod Turned
pub mod Reading
