pub mod Decided
pub mod BenchReplies
mod PlainTexts
mod PlainPrograms
mod PlainExamples
