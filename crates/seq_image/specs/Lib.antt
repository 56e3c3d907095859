pub mod Images
pub mod Areas
pub mod Flushing
pub mod Starting
pub mod Begun
pub mod Depends
pub mod Ahead
