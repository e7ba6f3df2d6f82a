pub mod RunOutcomes
