use Rattle.std.proofs.Common.{◌≤◌, List, length, map, slice_get, Result, ap, subst, ◌∙◌}
use Rattle.std.specs.Prelude.{Vec}
use Rattle.std.specs.declared.alloc.Global.{Global}
use Rattle.text_parser.specs.declared.fault.TextFault.{TextFault}
use Rattle.text_parser.specs.Parsed.{Makes}
use Rattle.flow_text.specs.declared.known.WrittenGraph.{WrittenGraph}
use Rattle.flow_text.specs.declared.known.WrittenMatch.{WrittenMatch}
use Rattle.flow_text.specs.declared.matches.FileMatch.{FileMatch as AFileMatch}
use Rattle.flow_text.specs.Matches.{FileMatch}
use Rattle.flow_text.specs.Checking.{blocks_or_none, matches_between}
use Rattle.flow_text.specs.MatchViews.{matches_parts}
use Rattle.flow_text.specs.KnownViews.{graph_syntax, given_match_of}
use Rattle.flow_text.specs.ScopeViews.{scope_parts}
use Rattle.flow_syntax.specs.Syntax.{BlockSyntax}
use Rattle.flow_syntax.specs.SyntaxViews.{blocks_syntax}
use Rattle.flow_syntax.proofs.Stacked.{blocks_none}
use Rattle.flow_text.proofs.MatchSteps.{no_blocks_at}
use Rattle.flow_text.proofs.matches.matches_with.Goals as goal

pub returns-in-None : goal.returns-in-None
returns-in-None c =
    let s = scope_parts c.args.known.now.scope in
    let bs = blocks_syntax c.args.blocks.now in
    let graphs = c.args.known.now.graphs.items in
    let past : length graphs ≤ c.args.k = subst (λ (gs : List WrittenGraph). length gs ≤ c.args.k) c.deref.ensures.value c.in-None.ensures.lookup.3 in
    subst (λ (m : Result (List FileMatch) TextFault). Makes (Unit {0}) (λ (v : Vec AFileMatch Global). matches_parts v.items) c.matches_between-in-None.result m)
    (ap (λ (cs : List BlockSyntax). matches_between s bs cs (map given_match_of c.deref-in-None.result.now)) (blocks_none ∙ no_blocks_at graphs c.args.k past)
    ∙ ap (λ (ms : List WrittenMatch). matches_between s bs (blocks_or_none (slice_get (map graph_syntax graphs) c.args.k)) (map given_match_of ms)) c.deref-in-None.ensures.value)
    c.matches_between-in-None.ensures
