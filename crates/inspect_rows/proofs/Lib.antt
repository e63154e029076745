pub mod Texts
pub mod Bounds
pub mod Examples
