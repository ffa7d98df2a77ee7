pub mod Reach
pub mod Rest
