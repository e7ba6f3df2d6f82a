pub mod Variables
pub mod Loops
pub mod Statements
pub mod Forms
pub mod Sizes
pub mod Laws
pub mod Working
