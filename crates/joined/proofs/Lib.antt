pub mod Checks
pub mod Folds
pub mod Grow
pub mod Walking
pub mod Worked
