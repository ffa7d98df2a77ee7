pub mod Splitting
pub mod Running
