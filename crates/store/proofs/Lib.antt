pub mod Exits
pub mod Scans
pub mod Writes
pub mod Calls
