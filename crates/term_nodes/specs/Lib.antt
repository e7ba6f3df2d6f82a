pub mod Nodes
pub mod NodeLists
pub mod NodeTrees
pub mod TreeParts
pub mod Growth
pub mod NumberSets
