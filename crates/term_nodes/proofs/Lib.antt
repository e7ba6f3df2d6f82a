pub mod Prefixes
pub mod Parts
pub mod TestTrees
pub mod TermTrees
pub mod TreeParts
pub mod Growing
pub mod Insertions
mod Neighbours
