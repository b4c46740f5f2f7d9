pub mod Accepted
pub mod Checks
pub mod Numbers
