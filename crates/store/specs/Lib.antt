pub mod Refusals
pub mod Judge
pub mod Image
pub mod Scanning
pub mod Steps
pub mod Answers
pub mod Work
pub mod Examples
