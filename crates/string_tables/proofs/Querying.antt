-- The hypotheses and sides of a problem can be read along a string that fits it.
use Rattle.std.proofs.Common.{◌≡◌, ℕ, zero, suc, ◌<◌, List, [], ◌∷◌, All, length, get_or, sym, ap, ◌∙◌, subst, arith, None}
use Rattle.kat_model.specs.Trees.{Term}
use Rattle.kat_model.specs.Problems.{ProblemParts, IsProblem, HasTestsBelow, IsInRange, AreInRange}
use Rattle.kat_model.specs.Strings.{GuardedString}
use Rattle.kat_model.proofs.Ranges.{IsInRange-HasTestsBelow}
use Rattle.string_tables.specs.Findings.{misfit}
use Rattle.string_tables.specs.Parts.{atom_of, MayBeRead}
use Rattle.string_tables.proofs.Fitting.{no_misfit_is_string}
use Rattle.string_tables.proofs.Positions.{atom_at_position}
use Rattle.string_tables.proofs.Counterexamples.{fits_table}

in_range_at : (tests actions : ℕ) (es : List Term) → AreInRange tests actions es → All (IsInRange tests actions) es
in_range_at tests actions [] r k d lt = absurd (omega arith)
in_range_at tests actions (e ∷ es) r zero d lt = r.0
in_range_at tests actions (e ∷ es) r (suc k) d lt = in_range_at tests actions es r.1 k d (omega arith)

module _ (q : ProblemParts) (x : GuardedString) (within : IsProblem q) (fits : misfit q x ≡ None) where
  read : (e : Term) → IsInRange q.tests q.actions e → MayBeRead x e
  read e range k le =
      let lt : k < suc (length x.rest) = omega arith in
      let wide = (fits_table q.tests q.actions x (no_misfit_is_string q x fits)).wide k lt in
      let same : length (atom_of x k) ≡ q.tests = ap length (sym (atom_at_position x.first x.rest k le)) ∙ wide in
      subst (λ n. HasTestsBelow n e) (sym same) (IsInRange-HasTestsBelow q.tests q.actions e range)

  pub hyps_read : All (MayBeRead x) q.hyps
  hyps_read k d lt = read (get_or q.hyps k d) (in_range_at q.tests q.actions q.hyps within.hyps k d lt)

  pub left_read : MayBeRead x q.left
  left_read = read q.left within.left

  pub right_read : MayBeRead x q.right
  right_read = read q.right within.right
