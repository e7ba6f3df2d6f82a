pub mod AtomSets
pub mod Annotated
pub mod Reached
pub mod Found
pub mod FoundLoops
pub mod Noted
