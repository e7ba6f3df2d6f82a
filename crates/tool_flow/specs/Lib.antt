pub mod FlowFaults
pub mod Questions
pub mod Flow
pub mod Working
