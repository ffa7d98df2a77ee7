pub mod Checks
pub mod Shape
pub mod Message
pub mod Placing
pub mod Parties
pub mod Refusal
pub mod Reading
pub mod inner
