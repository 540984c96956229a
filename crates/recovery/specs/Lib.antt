pub mod Readings
pub mod Holding
pub mod Standing
pub mod Breaks
pub mod Calls
pub mod Data
pub mod Examples
