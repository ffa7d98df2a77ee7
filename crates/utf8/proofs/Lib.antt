pub mod Rows
pub mod Walk
pub mod AsciiLaws
pub mod PassedLaws
pub mod Join
pub mod Marks
