pub mod Frees
pub mod Clashes
pub mod Ordered
