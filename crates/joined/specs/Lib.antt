pub mod Joined
pub mod Walk
