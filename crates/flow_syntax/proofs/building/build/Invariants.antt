use Rattle.std.proofs.Common.{◌≡◌, ◌≤◌, ◌+◌, length, drop}
use Rattle.text_parser.specs.TokenParts.{parts_of_tokens}
use Rattle.flow_syntax.specs.Values.{count_taken, values}
use Rattle.flow_syntax.proofs.building.build.Given as goal

-- the values of the steps from `left` on, which take the tokens from `at` on
abbrev pub invariant-steps : goal.invariant-steps
invariant-steps g l = record {
  left : l.left ≤ length l.steps;
  place : l.at + count_taken (drop l.left l.steps) ≡ length l.toks;
  value : g.B.Building.stack l.building ≡ values g.B.Building.actions (drop l.left l.steps) (drop l.at (parts_of_tokens l.toks));
}

abbrev pub decreases-steps : goal.decreases-steps
decreases-steps g l = l.left
