pub mod Classes
pub mod Sizing
