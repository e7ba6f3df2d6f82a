pub mod Reasons
pub mod SortedPieces
pub mod SamePieces
pub mod FoundPieces
pub mod PieceProblemExamples
