pub mod NamedNumbers
pub mod CommentLines
pub mod WrittenTexts
pub mod WrittenLists
pub mod WrittenForms
mod FlowTextExamples
