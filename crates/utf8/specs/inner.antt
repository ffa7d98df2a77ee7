pub mod Passed
pub mod Sized
