use Rattle.std.proofs.Common.{List, map}
use Rattle.std.specs.Prelude.{Vec}
use Rattle.std.specs.declared.alloc.Global.{Global}
use Rattle.flow_model.specs.declared.graph.CondNode.{CondNode}
use Rattle.flow_model.specs.Polish.{CondPart, conds_of}
use Rattle.flow_text.specs.Trees.{only_cond, cond_part}
use Rattle.flow_text.proofs.ProgramResults.{makes_seen}
use Rattle.flow_text.proofs.resolve_cond.resolve_cond.Goals as goal

pub returns : goal.returns
returns c = makes_seen (λ (v : Vec CondNode Global). map cond_part v.items) (λ (ps : List CondPart). only_cond (conds_of ps)) _ _ c.resolve_nodes.ensures
