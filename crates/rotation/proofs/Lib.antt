pub mod RotationLaws
