pub mod Counts
pub mod Judged
pub mod Recased
pub mod Written
pub mod Examples
