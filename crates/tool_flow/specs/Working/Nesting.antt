-- Whether terms are within the limit on open constructs.
use Rattle.std.specs.Prelude.{Bool, ◌&&◌, nat_le}
use Rattle.std.specs.List.{list_all}
use Rattle.kat_model.specs.declared.limits.TheConstants.{MAX_OPEN}
use Rattle.kat_model.specs.Trees.{Term}
use Rattle.kat_model.specs.Problems.{ProblemParts}
use Rattle.text_print.specs.Printing.{term_nesting}

abbrev pub is_shallow : Term → Bool
is_shallow e = nat_le (term_nesting e) MAX_OPEN

abbrev pub are_shallow : ProblemParts → Bool
are_shallow q = is_shallow q.left && (is_shallow q.right && list_all is_shallow q.hyps)
