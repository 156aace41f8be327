pub mod SeedLaws
pub mod ImageLaws
pub mod FillLaws
