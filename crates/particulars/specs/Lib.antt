pub mod Types
pub mod Leaves
pub mod Lowest
pub mod Members
pub mod Faults
pub mod Fields
pub mod inner
