pub mod Items
pub mod Lengths
