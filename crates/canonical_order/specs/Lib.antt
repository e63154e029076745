pub mod Section
pub mod Heads
