mod Writing
mod Moving
pub mod Looking
