pub mod Gated
pub mod Equal
pub mod Copied
pub mod Elsewhere
