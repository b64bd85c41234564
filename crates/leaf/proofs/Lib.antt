-- Laws of reports.
pub mod Stores
pub mod Shapes
pub mod Reporting
pub mod Calling
pub mod Once
pub mod Closures
pub mod Examples
mod Answering
