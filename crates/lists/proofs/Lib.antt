pub mod TestLaws
pub mod SearchLaws
pub mod FoundLaws
