pub mod Gate
pub mod Needs
pub mod Rows
pub mod Stands
pub mod Survive
pub mod Taken
