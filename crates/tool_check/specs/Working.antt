pub mod FaultLines
pub mod ChainReplies
pub mod ReplayReplies
pub mod CheckReplies
