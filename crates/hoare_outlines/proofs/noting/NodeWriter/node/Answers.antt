use Rattle.std.proofs.Common.{rules}
use Rattle.kat_model.proofs.Places.{no_doubles}
use Rattle.hoare_outlines.proofs.noting.NodeWriter.node.Goals as goal

pub returns-in-Ok-clause-once : goal.returns-in-Ok-clause-once
returns-in-Ok-clause-once c = no_doubles _ (λ x. search rules) c.insert_full.new.self.keys c.insert_full.ensures.unique

pub returns-in-Err-clause-once : goal.returns-in-Err-clause-once
returns-in-Err-clause-once c = no_doubles _ (λ x. search rules) c.insert_full.new.self.keys c.insert_full.ensures.unique
