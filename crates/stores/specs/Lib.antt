pub mod Store
pub mod Places
pub mod Plain
pub mod Shifting
pub mod Looked
