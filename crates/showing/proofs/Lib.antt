pub mod WordLaws
pub mod ShownLaws
pub mod ReadingLaws
pub mod WriterLaws
pub mod AskLaws
pub mod Marks
pub mod LocatedLaws
