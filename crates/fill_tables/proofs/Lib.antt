pub mod RowLaws
pub mod TimeLaws
