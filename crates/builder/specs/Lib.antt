pub mod Kinds
pub mod Plans
