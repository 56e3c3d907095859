pub mod Lending
pub mod Blocks
pub mod Masks
pub mod Description
pub mod Names
