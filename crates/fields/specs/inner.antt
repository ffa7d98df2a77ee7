pub mod Chain
pub mod Judging
pub mod Gathering
pub mod Asked
