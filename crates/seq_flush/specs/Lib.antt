pub mod Units
pub mod Turns
pub mod Facts
pub mod Laws
