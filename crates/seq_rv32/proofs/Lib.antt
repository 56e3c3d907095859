pub mod Refusals
pub mod Numbers
pub mod NextPc
pub mod Values
pub mod Outcomes
pub mod Sources
