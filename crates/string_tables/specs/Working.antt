pub mod Matrices
pub mod Filled
pub mod Marks
pub mod Breaks
