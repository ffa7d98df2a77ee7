pub mod Words
pub mod Shown
pub mod Readings
pub mod Located
pub mod Writers
pub mod Asked
pub mod inner
