pub mod Drawing
pub mod Marking
pub mod Lines
pub mod Examples
