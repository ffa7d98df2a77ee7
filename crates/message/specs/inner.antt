pub mod Facts
pub mod Named
pub mod Shaping
pub mod Walk
