pub mod Walks
pub mod Findings
pub mod FormParts
pub mod ShownTexts
pub mod ExplainReplies
