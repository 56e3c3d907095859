pub mod Changes
pub mod Lines
pub mod Bounds
pub mod Duties
pub mod Turns
