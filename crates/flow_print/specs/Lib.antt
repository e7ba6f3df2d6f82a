pub mod NameTables
pub mod FormTexts
pub mod ActionTexts
pub mod ReasonTexts
pub mod FlowTexts
pub mod Working
