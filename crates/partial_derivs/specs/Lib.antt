pub mod Moves
pub mod Tables
pub mod Laws
pub mod Working
