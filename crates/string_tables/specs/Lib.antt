pub mod Tables
pub mod Parts
pub mod Working
pub mod Findings
pub mod Laws
