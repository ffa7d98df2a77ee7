pub mod Value
pub mod Spans
pub mod inner
