pub mod Gkat
pub mod Running
pub mod OneLoop
pub mod FormFaults
pub mod Show
pub mod Working
