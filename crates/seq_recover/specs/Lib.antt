pub mod Reading
pub mod Turns
pub mod Needs
pub mod Stands
pub mod Survive
