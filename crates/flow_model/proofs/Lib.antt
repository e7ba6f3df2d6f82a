pub mod Determined
pub mod Signed
pub mod RunExamples
