pub mod Matches
pub mod Pieces
pub mod PieceGraphs
pub mod PieceQuestions
pub mod SameTrees
pub mod Exits
pub mod SameTexts
pub mod Laws
