pub mod TextLaws
pub mod ColumnsLaws
