pub mod LineLaws
pub mod BeginningLaws
