pub mod First
pub mod Listed
pub mod Kept
pub mod Arities
pub mod Ranges
pub mod Fits
