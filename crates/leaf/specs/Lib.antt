pub mod Reported
pub mod Written
pub mod Answered
