pub mod Example
pub mod Pages
pub mod Places
pub mod Plans
pub mod Printed
pub mod Short
