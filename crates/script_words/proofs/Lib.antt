mod Decimals
mod Pairs
