pub mod Rule
pub mod Requests
pub mod Responses
pub mod Ticks
pub mod Outcomes
pub mod inner
