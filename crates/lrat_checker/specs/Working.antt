pub mod Marks
pub mod KnownClauses
pub mod Steps
pub mod WordLists
pub mod ReadTexts
