pub mod Changes
pub mod Standing
pub mod Marks
pub mod Lending
pub mod Overlay
pub mod Reads
pub mod Laws
