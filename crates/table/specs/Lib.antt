pub mod Image
pub mod Record
pub mod Search
pub mod WellFormed
pub mod Blank
pub mod inner
