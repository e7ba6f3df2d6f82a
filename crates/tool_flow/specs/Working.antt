pub mod Nesting
pub mod Reasons
pub mod Found
pub mod FlowReplies
