pub mod CopyLaws
pub mod OrderLaws
pub mod ScrollLaws
pub mod AcceptedLaws
pub mod Example
