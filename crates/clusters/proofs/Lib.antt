pub mod Checks
pub mod Joining
pub mod Roots
pub mod Worked
