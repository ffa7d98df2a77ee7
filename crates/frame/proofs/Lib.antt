pub mod Standing
pub mod Written
pub mod Compact
pub mod ArrayEdits
pub mod Parsed
pub mod MessageShape
pub mod Forwarding
pub mod Marks
