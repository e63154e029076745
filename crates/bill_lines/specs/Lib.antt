pub mod Shapes
pub mod Keys
pub mod State
pub mod Held
pub mod Text
pub mod Over
