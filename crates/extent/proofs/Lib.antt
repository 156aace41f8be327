pub mod ReachLaws
pub mod ExtentLaws
