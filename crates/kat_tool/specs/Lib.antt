pub mod Replies
pub mod Agreement
pub mod Run
pub mod Laws
pub mod HeadlineAgreement
pub mod FlowAgreement
