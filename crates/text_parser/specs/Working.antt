pub mod Fronts
pub mod Symbols
pub mod Words
pub mod Names
