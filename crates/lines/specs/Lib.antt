pub mod Program
pub mod Input
pub mod Log
pub mod inner
