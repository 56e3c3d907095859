pub mod Parts
pub mod Digits
pub mod Operands
pub mod Statements
pub mod Plain
pub mod Listed
pub mod Whole
