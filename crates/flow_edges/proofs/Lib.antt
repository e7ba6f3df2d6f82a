pub mod CellForms
pub mod Numbered
pub mod KnownFacts
pub mod SplitLists
pub mod SplitCounts
pub mod EdgesOfTables
pub mod MappedLists
mod SameActions
mod TableRows
pub mod GraphRows
