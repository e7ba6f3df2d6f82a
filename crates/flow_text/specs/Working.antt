pub mod Wanting
pub mod Assigning
pub mod Words
pub mod AddedNames
