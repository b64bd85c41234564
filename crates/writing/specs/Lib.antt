pub mod Writing
pub mod Writer
pub mod Cells
