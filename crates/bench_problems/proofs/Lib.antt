pub mod DrawnPrograms
pub mod UnrolledFlows
pub mod FlowSizes
pub mod BenchSizes
pub mod GeneratorExamples
