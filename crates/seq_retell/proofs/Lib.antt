pub mod Keeping
mod Steps
