use Rattle.std.proofs.Common.{◌≡◌, drop, map}
use Rattle.flow_text.specs.Checking.{found, block_names, matches_after, matches_between}
use Rattle.flow_text.specs.MatchViews.{matches_parts}
use Rattle.flow_text.specs.KnownViews.{given_match_of}
use Rattle.flow_text.specs.ScopeViews.{scope_parts}
use Rattle.flow_syntax.specs.SyntaxViews.{blocks_syntax}
use Rattle.flow_text.proofs.matches.matches_between.Given as goal

-- the matches so far, and those of the items that are left
abbrev pub invariant-loop-item : goal.invariant-loop-item
invariant-loop-item l =
    matches_after (scope_parts l.scope) (block_names 0 (blocks_syntax l.blocks)) (found (block_names 0 (blocks_syntax l.blocks))) (found (block_names 0 (blocks_syntax l.others))) (matches_parts l.matches.items) (map given_match_of (drop l.item-index l.written))
    ≡ matches_between (scope_parts l.scope) (blocks_syntax l.blocks) (blocks_syntax l.others) (map given_match_of l.written)
