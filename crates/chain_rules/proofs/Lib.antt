pub mod Agreement
pub mod AxiomsHold
pub mod Soundness
pub mod Instances
pub mod InstanceChecks
pub mod LineLists
pub mod CheckedChains
