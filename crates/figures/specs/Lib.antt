pub mod Figures
pub mod TimingFigures
