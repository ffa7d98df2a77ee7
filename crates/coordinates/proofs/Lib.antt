pub mod CoordinateLaws
pub mod Written
pub mod Marks
