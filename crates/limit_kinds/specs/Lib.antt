pub mod Limit
pub mod Limits
