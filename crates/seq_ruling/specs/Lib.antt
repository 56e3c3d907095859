pub mod Lowest
pub mod Ruling
pub mod Checks
