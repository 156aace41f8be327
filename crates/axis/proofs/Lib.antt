pub mod AxisLaws
pub mod ValuesLaws
