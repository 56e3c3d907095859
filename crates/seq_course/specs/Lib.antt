pub mod Course
pub mod Made
pub mod Making
pub mod Room
pub mod Done
pub mod Troubles
