pub mod ListingLaws
pub mod DigitsLaws
pub mod PlacedLaws
pub mod LoopLaws
