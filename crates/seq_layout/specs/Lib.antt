pub mod Places
pub mod Shapes
pub mod Tables
pub mod Copies
pub mod Firsts
pub mod Held
pub mod Units
pub mod Contexts
