pub mod Faults
pub mod Steps
pub mod History
pub mod Machine
pub mod Promise
pub mod Examples
