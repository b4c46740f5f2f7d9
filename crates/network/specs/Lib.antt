pub mod Sets
pub mod Valid
pub mod Zeros
