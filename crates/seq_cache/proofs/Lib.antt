pub mod Order
pub mod Puts
mod Found
mod Marked
pub mod LawsHold
pub mod ReadsHold
