pub mod Tables
pub mod Fitting
pub mod Numerals
pub mod Plainness
