pub mod CutLines
pub mod SpelledRead
pub mod ReadSpelled
pub mod ReadSteps
pub mod SectionExamples
