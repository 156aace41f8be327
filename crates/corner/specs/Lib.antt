pub mod Corner
