use Rattle.std.proofs.Common.{◌≤◌, List, length, map, slice_get, Result, ap, subst, ◌∙◌}
use Rattle.std.specs.Prelude.{Vec}
use Rattle.std.specs.declared.alloc.Global.{Global}
use Rattle.text_parser.specs.declared.fault.TextFault.{TextFault}
use Rattle.text_parser.specs.Parsed.{Makes}
use Rattle.flow_text.specs.declared.known.WrittenGraph.{WrittenGraph}
use Rattle.flow_text.specs.declared.matches.FileMatch.{FileMatch as AFileMatch}
use Rattle.flow_text.specs.Matches.{FileMatch}
use Rattle.flow_text.specs.Checking.{blocks_or_none, matches_between}
use Rattle.flow_text.specs.MatchViews.{matches_parts}
use Rattle.flow_text.specs.KnownViews.{graph_syntax, given_match_of}
use Rattle.flow_text.specs.ScopeViews.{scope_parts}
use Rattle.flow_syntax.specs.Syntax.{BlockSyntax}
use Rattle.flow_syntax.proofs.Stacked.{blocks_none}
use Rattle.flow_text.proofs.MatchSteps.{no_blocks_at}
use Rattle.flow_text.proofs.matches.file_matches.Goals as goal

pub returns-in-None : goal.returns-in-None
returns-in-None c =
    let known = c.args.known.now in
    let graphs = known.graphs.items in
    let past : length graphs ≤ c.args.goal.0 = subst (λ (gs : List WrittenGraph). length gs ≤ c.args.goal.0) c.deref.ensures.value c.in-None.ensures.lookup.3 in
    subst (λ (m : Result (List FileMatch) TextFault). Makes (Unit {0}) (λ (v : Vec AFileMatch Global). matches_parts v.items) c.matches_with-in-None.result m)
    (ap (λ (bs : List BlockSyntax). matches_between (scope_parts known.scope) bs (blocks_or_none (slice_get (map graph_syntax graphs) c.args.goal.1)) (map given_match_of known.matches.items)) (blocks_none ∙ no_blocks_at graphs c.args.goal.0 past))
    c.matches_with-in-None.ensures
