pub mod Squeeze
pub mod Reader
pub mod Pieces
