pub mod Gathered
pub mod Unions
