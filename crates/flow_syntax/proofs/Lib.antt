pub mod Parentheses
pub mod Leading
pub mod Light
pub mod Ending
pub mod Leftmost
pub mod ValuesMade
pub mod MovesMade
pub mod ReaderExamples
pub mod KeptValues
pub mod GrammarExamples
pub mod Reversed
mod RowLists
mod MarkLists
pub mod TokensTaken
pub mod Stacked
pub mod Taken
pub mod NodeLists
pub mod LastMembers
pub mod CappedNodes
pub mod NamedSyntax
pub mod WholeSyntax
pub mod SpelledWhole
pub mod NamedValues
