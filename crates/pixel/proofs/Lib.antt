pub mod BitwiseLaws
pub mod PixelOpLaws
pub mod SizeLaws
pub mod PixelLaws
pub mod MaskLaws
pub mod Footprint
