pub mod Steps
pub mod Surveying
pub mod Stands
pub mod Made
pub mod Targets
pub mod Answers
pub mod Unique
mod Worked
