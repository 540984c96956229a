pub mod Chunks
pub mod Numbers
pub mod Entries
pub mod Headers
pub mod Examples
