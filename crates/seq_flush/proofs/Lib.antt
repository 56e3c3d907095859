pub mod Numbered
pub mod Standing
pub mod Turned
pub mod Known
pub mod Layer
pub mod Survive
pub mod LawsHold
