pub mod FillTimingLaws
