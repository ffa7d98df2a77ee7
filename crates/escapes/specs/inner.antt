pub mod Measuring
pub mod Reading
