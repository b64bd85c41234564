-- The laws behind the proofs of src/.
pub mod Places
pub mod Programs
mod PlaceOfFacts
