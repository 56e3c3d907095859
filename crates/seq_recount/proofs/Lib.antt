pub mod Turns
pub mod Rooms
pub mod Few
