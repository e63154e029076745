pub mod Free
pub mod Verdicts
