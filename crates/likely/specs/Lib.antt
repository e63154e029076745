pub mod Parts
pub mod Kept
pub mod Forms
