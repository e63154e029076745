pub mod Calls
pub mod Handed
pub mod Printed
pub mod Status
pub mod Runs
