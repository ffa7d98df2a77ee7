pub mod BadLetter
pub mod inner
