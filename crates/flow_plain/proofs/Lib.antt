pub mod Steps
pub mod PlainRules
pub mod PlainWords
pub mod PlainPieces
pub mod ExprReads
pub mod Skipped
pub mod CondReads
pub mod GraphReads
pub mod FileReads
pub mod PlainSpelling
pub mod ResolvedExprs
pub mod ResolvedConds
pub mod ResolvedGraphs
pub mod SizedGraphs
pub mod DeclaredScope
pub mod ReadBack
mod GraphExamples
