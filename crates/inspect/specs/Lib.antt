pub mod Bounds
pub mod Listed
pub mod Page0
pub mod Walked
