-- The laws behind the proofs of src/.
pub mod Wholes
pub mod Standings
