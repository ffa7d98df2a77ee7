pub mod ObjectLaws
pub mod MessageLaws
pub mod BoundLaws
pub mod WrittenLaws
pub mod AcceptedLaws
