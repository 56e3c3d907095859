pub mod Listed
pub mod LeftFrom
pub mod Equal
pub mod Cleared
pub mod HeldBits
pub mod Chosen
pub mod Elsewhere
