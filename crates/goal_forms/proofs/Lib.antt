pub mod LongProblems
pub mod SimpleForms
pub mod LeastHypotheses
pub mod StepForms
pub mod FewerHypotheses
pub mod OneMove
pub mod Meanings
