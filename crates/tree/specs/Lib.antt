pub mod Climb
pub mod Checks
