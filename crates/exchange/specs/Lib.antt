pub mod Paper
pub mod Sequence
pub mod Marks
