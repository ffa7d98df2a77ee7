pub mod LogLaws
pub mod WorkLaws
pub mod WholeLog
pub mod Marks
