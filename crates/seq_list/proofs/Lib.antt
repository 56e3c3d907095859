pub mod Shortest
pub mod Listed
pub mod ReadBack
