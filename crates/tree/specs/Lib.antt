-- The model, each file over those before it.
pub mod Order
pub mod Entries
pub mod Map
pub mod Children
pub mod Tree
pub mod Sound
pub mod Path
pub mod Relief
pub mod Change
pub mod History
pub mod Room
pub mod Laws
pub mod Keys
pub mod Examples
