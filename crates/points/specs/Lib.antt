pub mod Axes
pub mod Points
pub mod OneToOne
pub mod Table
