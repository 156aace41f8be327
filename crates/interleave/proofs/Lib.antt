pub mod FootprintLaws
pub mod CommuteLaws
pub mod VisitLaws
pub mod OrderLaws
pub mod JobLaws
