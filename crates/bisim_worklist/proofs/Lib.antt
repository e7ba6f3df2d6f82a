pub mod PairLimits
pub mod AnswerCerts
pub mod Decisions
