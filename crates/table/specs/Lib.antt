pub mod Nodes
pub mod Checks
pub mod Threads
pub mod Kinds
pub mod Marks
pub mod Pending
