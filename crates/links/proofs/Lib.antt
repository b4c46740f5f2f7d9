pub mod Breach
pub mod Count
pub mod Links
pub mod Worked
