pub mod TestLaws
pub mod TextLaws
pub mod ClassLaws
pub mod Chain
pub mod NumberLaws
pub mod DecimalLaws
pub mod Marks
