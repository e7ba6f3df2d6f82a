pub mod CallEnds
pub mod VersionNumbers
