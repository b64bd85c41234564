pub mod Entries
pub mod Changes
