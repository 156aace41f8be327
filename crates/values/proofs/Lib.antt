pub mod TestsLaws
pub mod BlockLaws
