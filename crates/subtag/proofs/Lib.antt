pub mod Bytes
pub mod Letters
pub mod Walk
pub mod Keys
pub mod Shapes
pub mod Cased
pub mod Scanning
