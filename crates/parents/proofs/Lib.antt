pub mod Laws
pub mod Writing
pub mod Walks
pub mod OwnRows
