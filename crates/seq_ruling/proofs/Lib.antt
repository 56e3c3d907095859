pub mod Lowest
pub mod Blockers
pub mod States
