pub mod Algebras
pub mod Meanings
pub mod Derivations
pub mod Laws
pub mod TruthValues
