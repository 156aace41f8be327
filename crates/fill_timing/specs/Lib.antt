pub mod FillTiming
