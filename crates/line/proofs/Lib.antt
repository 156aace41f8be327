pub mod LineLaws
pub mod WordsLaws
