use Rattle.std.proofs.Common.{◌≡◌, Bor, List, [], length}
use Rattle.std.specs.BTreeMap.{get_by_text}
use Rattle.std.specs.Option.{option_map}
use Rattle.flow_model.specs.declared.sort.Sort.{Sort}
use Rattle.flow_text.specs.Trees.{graph_of}
use Rattle.flow_text.specs.Checking.{blocks_after}
use Rattle.flow_text.specs.ScopeViews.{sight_parts}
use Rattle.flow_syntax.specs.SyntaxViews.{blocks_syntax}
use Rattle.flow_text.proofs.check_blocks.check_blocks.Given as goal

-- the blocks so far, and those that are left
abbrev pub invariant-each : goal.invariant-each
invariant-each l =
    blocks_after (sight_parts l.visible_names) (option_map (λ (r : Bor (List Sort)). r.now) l.results) (get_by_text l.names) (graph_of l.checked.items) (blocks_syntax l.rest)
    ≡ blocks_after (sight_parts l.visible_names) (option_map (λ (r : Bor (List Sort)). r.now) l.results) (get_by_text l.names) [] (blocks_syntax l.fn.blocks)

abbrev pub decreases-each : goal.decreases-each
decreases-each l = length l.rest
