pub mod Shape
pub mod Made
