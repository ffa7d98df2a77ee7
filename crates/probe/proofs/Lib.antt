pub mod TableLaws
pub mod EventLaws
pub mod CommandLaws
pub mod CeilingLaws
pub mod WholeInput
pub mod Determined
pub mod PieceLaws
pub mod Marks
