-- Laws of the column.
pub mod Locals
pub mod Checks
pub mod Backwards
pub mod Counts
pub mod Spines
pub mod Copies
pub mod Besides
pub mod Admissions
