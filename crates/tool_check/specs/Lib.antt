pub mod Check
pub mod Replay
pub mod Chain
pub mod Working
