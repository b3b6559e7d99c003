mod Formats
mod Opens
