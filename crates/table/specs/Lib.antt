pub mod Lines
pub mod Search
pub mod Hints
