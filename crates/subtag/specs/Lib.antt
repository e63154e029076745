pub mod Bytes
pub mod Subtags
pub mod Kinds
pub mod Sections
