pub mod Mode
pub mod MoveStates
