pub mod Objects
pub mod Positions
pub mod inner
