pub mod Refusals
pub mod Seen
pub mod Calls
pub mod Finds
