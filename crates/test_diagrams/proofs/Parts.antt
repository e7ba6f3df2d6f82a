-- Cofactors of diagrams and of operations for a value of a test.
use Rattle.std.proofs.Common.{◌≡◌, ◌≢◌, ℕ, ◌+◌, ◌<◌, ◌≤◌, min, ⊎_elim, Bool, true, false, if◌then◌else◌, not, ◌&&◌, ◌||◌, Some, slice_get, set, length, sym, ap, ◌∙◌, arith, length-set}
use Rattle.std.proofs.lemmas.Bool.{cases_eq}
use Rattle.std.proofs.lemmas.List.{set_comm}
use Rattle.std.proofs.lemmas.Option.{slice_get_within}
use Rattle.kat_model.specs.Steps.{Atom}
use Rattle.test_diagrams.specs.declared.diagrams.Node.TheVariants.{Constant, Branch}
use Rattle.test_diagrams.specs.declared.diagrams.Operation.TheVariants.{And, Or, Not, Fix}
use Rattle.test_diagrams.specs.Functions.{DiagramsParts, value_of, IsDiagramId}
use Rattle.test_diagrams.specs.Reduced.{level_of, IsReduced}
use Rattle.test_diagrams.specs.Working.Operations.{IsPart, IsCofactor}
use Rattle.test_diagrams.proofs.Levels.{level_of-constant, level_of-branch, value_of-set_above, value_of-set_own}

module _ (d : DiagramsParts) (r : IsReduced d) where
  -- a diagram with its top below the test is unchanged
  pub part_same : (id test : ℕ) (value : Bool) → IsDiagramId d id → test < level_of d id → IsPart d id test value id
  part_same id test value there above = record {
    in_range = there;
    function = λ atom fits. sym (value_of-set_above d r id test atom value there above);
    below = above;
    no_later = omega arith;
    earlier = λ e. absurd (omega arith);
  }

  -- a branch on another test is unchanged, and so is a constant
  pub part_other : (id own low high test : ℕ) (value : Bool) → slice_get d.nodes id ≡ Some (Branch own low high) → own ≢ test → test ≤ level_of d id → IsPart d id test value id
  part_other id own low high test value e other above =
      let level : level_of d id ≡ own = level_of-branch d id own low high e in
      part_same id test value (slice_get_within d.nodes id _ e) (omega arith)

  pub part_constant : (id : ℕ) (constant : Bool) (test : ℕ) (value : Bool) → slice_get d.nodes id ≡ Some (Constant constant) → test < d.tests → IsPart d id test value id
  part_constant id constant test value e within =
      let level : level_of d id ≡ d.tests = level_of-constant d id constant e in
      part_same id test value (slice_get_within d.nodes id _ e) (omega arith)

  -- a branch on the test becomes one of its parts
  pub part_low : (id own low high test : ℕ) (value : Bool) → slice_get d.nodes id ≡ Some (Branch own low high) → own ≡ test → value ≡ false → IsPart d id test value low
  part_low id own low high test value e same chosen =
      let here : slice_get d.nodes id ≡ Some (Branch test low high) = e ∙ ap (λ t. Some (Branch t low high)) same in
      let b = r.branches id test low high here in
      let there : id < length d.nodes = slice_get_within d.nodes id _ e in
      record {
        in_range = omega (arith, b.low_earlier);
        function = λ atom fits. sym (value_of-set_own d r id test low high atom value here fits ∙ ap (λ v. if v then value_of d high atom else value_of d low atom) chosen);
        below = b.low_below;
        no_later = omega (arith, b.low_earlier);
        earlier = λ level. b.low_earlier;
      }

  pub part_high : (id own low high test : ℕ) (value : Bool) → slice_get d.nodes id ≡ Some (Branch own low high) → own ≡ test → value ≡ true → IsPart d id test value high
  part_high id own low high test value e same chosen =
      let here : slice_get d.nodes id ≡ Some (Branch test low high) = e ∙ ap (λ t. Some (Branch t low high)) same in
      let b = r.branches id test low high here in
      let there : id < length d.nodes = slice_get_within d.nodes id _ e in
      record {
        in_range = omega (arith, b.high_earlier);
        function = λ atom fits. sym (value_of-set_own d r id test low high atom value here fits ∙ ap (λ v. if v then value_of d high atom else value_of d low atom) chosen);
        below = b.high_below;
        no_later = omega (arith, b.high_earlier);
        earlier = λ level. b.high_earlier;
      }

  -- a cofactor depends on no test up to this one
  part_independent : (id test : ℕ) (value : Bool) (part other : ℕ) (atom : Atom) (v : Bool) → IsPart d id test value part → other ≤ test → value_of d part (set atom other v) ≡ value_of d part atom
  part_independent id test value part other atom v p le = value_of-set_above d r part other atom v p.in_range (omega (arith, p.below))

  parts_lighter : (a b test : ℕ) (value : Bool) (p q : ℕ) → test ≡ min (level_of d a) (level_of d b) → IsPart d a test value p → IsPart d b test value q → p + q < a + b
  parts_lighter a b test value p q top left right =
      ⊎_elim
      (λ (e : level_of d a ≡ test). let less : p < a = left.earlier e in omega (arith, right.no_later))
      (λ (ne : level_of d a ≢ test). let e : level_of d b ≡ test = omega arith in let less : q < b = right.earlier e in omega (arith, left.no_later))
      (cases_eq (level_of d a) test)

  pub and_cofactor : (a b test : ℕ) (value : Bool) (p q : ℕ) → test ≡ min (level_of d a) (level_of d b) → IsPart d a test value p → IsPart d b test value q → IsCofactor d (And a b) test value (And p q)
  and_cofactor a b test value p q top left right = record {
    operands = (left.in_range, right.in_range);
    function = λ atom fits k. left.function atom fits k && right.function atom fits k;
    independent = λ other le atom fits v k. part_independent a test value p other atom v left le k && part_independent b test value q other atom v right le k;
    lighter = parts_lighter a b test value p q top left right;
  }

  pub or_cofactor : (a b test : ℕ) (value : Bool) (p q : ℕ) → test ≡ min (level_of d a) (level_of d b) → IsPart d a test value p → IsPart d b test value q → IsCofactor d (Or a b) test value (Or p q)
  or_cofactor a b test value p q top left right = record {
    operands = (left.in_range, right.in_range);
    function = λ atom fits k. left.function atom fits k || right.function atom fits k;
    independent = λ other le atom fits v k. part_independent a test value p other atom v left le k || part_independent b test value q other atom v right le k;
    lighter = parts_lighter a b test value p q top left right;
  }

  pub not_cofactor : (a test : ℕ) (value : Bool) (p : ℕ) → test ≡ level_of d a → IsPart d a test value p → IsCofactor d (Not a) test value (Not p)
  not_cofactor a test value p top part = record {
    operands = part.in_range;
    function = λ atom fits. ap not (part.function atom fits);
    independent = λ other le atom fits v. ap not (part_independent a test value p other atom v part le);
    lighter = part.earlier (sym top);
  }

  pub fix_cofactor : (a fixed : ℕ) (constant : Bool) (test : ℕ) (value : Bool) (p : ℕ) → test ≡ level_of d a → test < fixed → fixed < d.tests → IsPart d a test value p
      → IsCofactor d (Fix a fixed constant) test value (Fix p fixed constant)
  fix_cofactor a fixed constant test value p top above within part = record {
    operands = (part.in_range, within);
    function = λ atom fits.
        let other : fixed ≢ test = omega arith in
        part.function (set atom fixed constant) (length-set atom fixed constant ∙ fits) ∙ ap (value_of d a) (set_comm atom fixed test constant value other);
    independent = λ earlier le atom fits v.
        let other : earlier ≢ fixed = omega arith in
        ap (value_of d p) (set_comm atom earlier fixed v constant other) ∙ part_independent a test value p earlier (set atom fixed constant) v part le;
    lighter = part.earlier (sym top);
  }
