pub mod Unrolling
