pub mod FactLaws
pub mod KeepingLaws
pub mod TextLaws
pub mod StepLaws
pub mod Determined
pub mod Marks
