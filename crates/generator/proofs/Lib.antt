pub mod XorLaws
pub mod StepLaws
