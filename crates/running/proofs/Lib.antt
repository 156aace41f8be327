pub mod ProgressLaws
pub mod CopyLaws
