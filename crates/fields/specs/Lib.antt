pub mod Known
pub mod Via
pub mod Trail
pub mod Hop
pub mod Field
pub mod inner
