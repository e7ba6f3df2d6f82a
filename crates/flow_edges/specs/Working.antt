pub mod Views
pub mod Tables
pub mod Splitting
pub mod Terms
pub mod WayEdges
