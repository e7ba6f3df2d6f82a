pub mod Numbers
pub mod StoreLists
pub mod Following
pub mod RunEnds
pub mod Trials
pub mod Laws
