use Rattle.std.proofs.Common.{◌≡◌, ◌+◌, ◌-◌, ◌^◌, ◌<◌, min, drop}
use Rattle.linear_forms.proofs.Counting.{terms_nodes}
use Rattle.linear_forms.proofs.form.+sizes.Given as goal

-- the total plus the nodes of the remaining terms is the number of all nodes
abbrev pub invariant-form_size-loop-term : goal.invariant-form_size-loop-term
invariant-form_size-loop-term l = record {
  fits : l.total < 2 ^ 64;
  whole : min (l.total + terms_nodes (drop l.term-index l.term-items)) (2 ^ 64 - 1) ≡ min (1 + terms_nodes l.term-items) (2 ^ 64 - 1);
}
