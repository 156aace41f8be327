pub mod SourceLaws
pub mod DrawnLaws
