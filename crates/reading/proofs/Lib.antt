-- Laws of reading.
pub mod Decimals
pub mod Grammar
pub mod Stacks
pub mod Descents
pub mod Readings
