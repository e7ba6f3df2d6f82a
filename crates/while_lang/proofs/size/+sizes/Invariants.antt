use Rattle.std.proofs.Common.{◌≡◌, ◌+◌, ◌<◌, ◌^◌, drop}
use Rattle.kat_model.specs.Problems.{counted}
use Rattle.while_lang.specs.ProgramSizes.{prog_size}
use Rattle.while_lang.specs.ProgramViews.{list_tree}
use Rattle.while_lang.proofs.size.+sizes.Given as goal

-- the total so far and the sizes of the remaining statements are the whole size
abbrev pub invariant-prog_size-loop-stmt : goal.invariant-prog_size-loop-stmt
invariant-prog_size-loop-stmt l = record {
  fits : l.total < 2 ^ 64;
  whole : counted (l.total + prog_size (list_tree (drop l.stmt-index l.stmt-items))) ≡ counted (prog_size (list_tree l.stmt-items));
}
