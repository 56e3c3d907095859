pub mod Statements
pub mod Drafts
pub mod Faults
pub mod Kept
pub mod Taking
pub mod Errors
