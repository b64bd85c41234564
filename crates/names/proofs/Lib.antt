-- Laws of windows and of the passes.
pub mod Twos
pub mod Rounds
