pub mod Fits
pub mod Gathered
