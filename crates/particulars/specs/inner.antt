pub mod Gathering
pub mod Telling
