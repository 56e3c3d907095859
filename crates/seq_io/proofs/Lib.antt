pub mod Owned
pub mod Wired
pub mod Cases
pub mod Nothing
pub mod Served
