pub mod Answer
pub mod Slices
pub mod Both
pub mod Completed
pub mod Chained
