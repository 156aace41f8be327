pub mod CornerLaws
