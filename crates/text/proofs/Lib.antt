pub mod Decimal
pub mod Digits
pub mod Lines
pub mod Put
pub mod Std
