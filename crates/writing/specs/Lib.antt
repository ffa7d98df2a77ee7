pub mod Outcome
pub mod Objects
pub mod Parts
pub mod Reply
pub mod Adding
pub mod Removing
pub mod Texting
