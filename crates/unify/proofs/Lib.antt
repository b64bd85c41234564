pub mod Goals
pub mod SolvedTrees
pub mod Unbounds
pub mod Writing
pub mod Passes
pub mod Unified
