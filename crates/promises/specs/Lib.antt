pub mod Exactly
pub mod Worked
pub mod Again
pub mod Heads
pub mod Rules
pub mod Calls
pub mod Boundaries
pub mod AsBase
