pub mod Bets
pub mod Names
