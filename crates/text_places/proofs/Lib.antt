pub mod LastLines
pub mod FirstLines
pub mod Determined
