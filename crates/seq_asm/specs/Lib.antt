pub mod Lines
pub mod Rules
pub mod Assembled
pub mod Surveyed
