use Rattle.std.proofs.Common.{nat_eq, ◌&&◌, rules, tests, sym, ◌∙◌}
use Rattle.std.proofs.lemmas.Iterator.{YieldsList-from_slice}
use Rattle.std.proofs.lemmas.Iterator.Search.{any_from_yields_List}
use Rattle.flow_text.specs.declared.matches.FileMatch.{FileMatch as AFileMatch}
use Rattle.flow_text.proofs.MatchSteps.{matched_seen}
use Rattle.flow_text.proofs.matches.is_listed.Goals as goal

pub returns : goal.returns
returns c =
    any_from_yields_List (λ (m : AFileMatch). nat_eq m.blocks.before c.args.k && nat_eq m.blocks.after c.args.l) _ _ c.any.result c.any.ensures.ran (YieldsList-from_slice c.args.matches.now cc) (λ x b q k. search (rules, tests))
    ∙ sym (matched_seen c.args.k c.args.l c.args.matches.now)
