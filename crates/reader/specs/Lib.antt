pub mod Cuts
pub mod Parts
pub mod Walk
pub mod Marks
pub mod Steps
pub mod Spans
pub mod Words
