pub mod Soundness
pub mod Marks
