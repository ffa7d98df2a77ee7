pub mod FirstLaws
pub mod Steps
pub mod Exchange
pub mod Marks
