-- The test at the top of a diagram is the least test on which it depends.
use Rattle.std.proofs.Common.{◌≡◌, ℕ, ◌<◌, ◌≤◌, ⊎_elim, Bool, Some, slice_get, sym, ◌∙◌, arith, length-set}
use Rattle.std.proofs.lemmas.Bool.{cases_lt}
use Rattle.std.proofs.lemmas.Option.{slice_get_within}
use Rattle.test_diagrams.specs.declared.diagrams.Node.{Node}
use Rattle.test_diagrams.specs.declared.diagrams.Node.TheVariants.{Constant, Branch}
use Rattle.test_diagrams.specs.Functions.{DiagramsParts, IsDiagramId, IsConstant, DependsOn, IsIndependent, IsLeastTest}
use Rattle.test_diagrams.specs.Reduced.{level_of, IsReduced}
use Rattle.test_diagrams.proofs.Values.{value_of-constant}
use Rattle.test_diagrams.proofs.Levels.{node_of_id, level_of-constant, level_of-branch, value_of-set_above}
use Rattle.test_diagrams.proofs.Apart.{branch_depends}

module _ (d : DiagramsParts) where
  depends_or_not : (id test : ℕ) → DependsOn d id test → IsIndependent d id test → ⊥
  depends_or_not id test depends independent =
      depends.changes (independent depends.atom depends.fits _ ∙ sym (independent depends.atom depends.fits _))

  constant_or_not : (id test : ℕ) → DependsOn d id test → IsConstant d id → ⊥
  constant_or_not id test depends constant =
      depends.changes (constant.value _ (length-set depends.atom test _ ∙ depends.fits) ∙ sym (constant.value _ (length-set depends.atom test _ ∙ depends.fits)))

  -- a diagram that depends on no test up to this one has a later test, or none, at its top
  pub level_above : IsReduced d → (id test : ℕ) → IsDiagramId d id → test < d.tests → ((other : ℕ) → other ≤ test → IsIndependent d id other) → test < level_of d id
  level_above r id test there within independent = let n = node_of_id d id there in by n.0 n.1
    where
      by : (node : Node) → slice_get d.nodes id ≡ Some node → test < level_of d id
      by (Constant value) e = let level : level_of d id ≡ d.tests = level_of-constant d id value e in omega arith
      by (Branch own low high) e =
          let level : level_of d id ≡ own = level_of-branch d id own low high e in
          ⊎_elim
          (λ (lt : test < own). omega arith)
          (λ (le : own ≤ test). absurd (depends_or_not id own (branch_depends d r id own low high e) (independent own le)))
          (cases_lt test own)

  pub constant_is_constant : (id : ℕ) (value : Bool) → slice_get d.nodes id ≡ Some (Constant value) → IsConstant d id
  constant_is_constant id value e = record { constant = value; value = λ atom fits. value_of-constant d id value atom e }

  pub branch_is_no_constant : IsReduced d → (id test low high : ℕ) → slice_get d.nodes id ≡ Some (Branch test low high) → IsConstant d id → ⊥
  branch_is_no_constant r id test low high e = constant_or_not id test (branch_depends d r id test low high e)

  pub branch_is_least : IsReduced d → (id test low high : ℕ) → slice_get d.nodes id ≡ Some (Branch test low high) → IsLeastTest d id test
  branch_is_least r id test low high e =
      let level : level_of d id ≡ test = level_of-branch d id test low high e in
      record {
        in_range = (r.branches id test low high e).in_range;
        depends = branch_depends d r id test low high e;
        least = λ other earlier atom fits value. value_of-set_above d r id other atom value (slice_get_within d.nodes id _ e) (omega arith);
      }
