pub mod Names
pub mod Statements
pub mod Registers
pub mod Ranges
pub mod Numbers
pub mod Laws
