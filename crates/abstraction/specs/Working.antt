pub mod StatementFlows
pub mod ConstantForms
pub mod PairFacts
pub mod PairTests
pub mod FileTables
