pub mod Sizes
pub mod Packs
