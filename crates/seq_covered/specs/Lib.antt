pub mod Downs
pub mod Memories
pub mod Bound
