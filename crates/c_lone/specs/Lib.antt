pub mod Pixel
