pub mod Effect
pub mod Ceiling
pub mod Tables
pub mod Events
pub mod Commands
pub mod inner
