use Rattle.std.proofs.Common.{◌≡◌, ◌≤◌, ◌-◌, length}
use Rattle.std.specs.BTreeMap.{get_by_text}
use Rattle.text_parser.specs.TokenParts.{parts_of_token}
use Rattle.flow_text.specs.Checking.{block_names, with_names}
use Rattle.flow_text.specs.MatchViews.{matches_parts}
use Rattle.flow_syntax.specs.SyntaxViews.{blocks_syntax}
use Rattle.flow_text.proofs.matches.add_names.Given as goal

-- the matches so far, and those of the blocks that are left
abbrev pub invariant-each : goal.invariant-each
invariant-each l = record {
  within : length l.rest ≤ length l.fn.blocks;
  named : with_names (get_by_text l.after) (parts_of_token l.word) (matches_parts l.matches.items) (block_names (length l.fn.blocks - length l.rest) (blocks_syntax l.rest))
      ≡ with_names (get_by_text l.after) (parts_of_token l.word) (matches_parts l.initial.matches.items) (block_names 0 (blocks_syntax l.fn.blocks));
}

abbrev pub decreases-each : goal.decreases-each
decreases-each l = length l.rest
