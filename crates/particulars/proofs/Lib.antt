pub mod LowestLaws
pub mod TableLaws
pub mod GatheringLaws
pub mod LeafLaws
pub mod FaultLaws
pub mod FieldLaws
pub mod BoundLaws
pub mod Marks
