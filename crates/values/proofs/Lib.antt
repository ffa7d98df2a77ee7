pub mod SpellingLaws
pub mod SpelledLaws
pub mod ValueLaws
