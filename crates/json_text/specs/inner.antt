pub mod Machine
pub mod Begun
pub mod Tour
pub mod Runs
pub mod Landing
pub mod Derived
pub mod Passing
pub mod Plain
