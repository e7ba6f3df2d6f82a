mod Appending
mod JsonTexts
pub mod WrittenParts
mod ShowExamples
mod FormTexts
mod WrittenLists
pub mod ShownComments
