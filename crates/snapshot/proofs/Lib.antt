pub mod Begun
pub mod OnBoth
pub mod Opened
pub mod Written
pub mod Placed
