-- Laws of the table.
pub mod Sets
pub mod Trees
pub mod Spans
pub mod Positions
pub mod Allocated
pub mod Bodies
pub mod Coherence
pub mod Scans
pub mod Scopes
pub mod Verdicts
