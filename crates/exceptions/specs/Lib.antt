pub mod Search
pub mod Table
pub mod Listed
pub mod Edges
pub mod Examples
