pub mod Checks
pub mod Depth
pub mod Distance
pub mod Pigeonhole
pub mod Roots
pub mod Turn
pub mod Worked
