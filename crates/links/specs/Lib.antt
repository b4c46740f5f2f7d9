pub mod Breach
pub mod Links
