pub mod Operator
