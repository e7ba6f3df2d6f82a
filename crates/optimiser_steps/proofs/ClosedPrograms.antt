-- Without variables, comparisons are constant, and there are no assignments.
use Rattle.std.proofs.Common.{◌≡◌, ◌<◌, ◌+◌, ◌-◌, ◌*◌, ◌%◌, ℕ, List, [], map, Bool, true, false, nat_eq, nat_lt, refl, ap, ◌∙◌, subst, arith}
use Rattle.std.proofs.lemmas.List.{append-nil}
use Rattle.kat_model.specs.declared.limits.TheConstants.{MAX_TESTS}
use Rattle.kat_model.specs.Expressions.{ExprTree, number, variable, plus, minus, times, CondTree, always, never, named, compared, negation, both, either}
use Rattle.kat_model.specs.Stores.{modulus}
use Rattle.kat_model.specs.declared.expression.Rel.{Rel}
use Rattle.kat_model.specs.declared.expression.Rel.TheVariants.{Eq, Ne, Lt, Le, Gt, Ge}
use Rattle.linear_forms.specs.Forms.{constant}
use Rattle.linear_forms.specs.Arithmetic.{normal_form}
use Rattle.linear_forms.specs.Comparisons.{constantly, opposite, compared_form}
use Rattle.while_lang.specs.Programs.{ProgTree, empty, skip_then, abort_then, assert_then, act_then, assign_then, branch_then, loop_then}
use Rattle.while_lang.specs.Files.{FileParts, triple, prog_side}
use Rattle.while_lang.specs.Ranges.{IsExprInRange, IsCondInRange, IsProgInRange}
use Rattle.abstraction.specs.Comparisons.{atomics, cond_comparisons, prog_comparisons, prog_assignments}
use Rattle.abstraction.specs.Tables.{Tables, first_comparisons, file_assignments}
use Rattle.abstraction.specs.Rounds.{tables_of}
use Rattle.abstraction.specs.Facts.{Hypothesis}
use Rattle.abstraction.specs.Derived.{stated_from, hypotheses}
use Rattle.abstraction.specs.Abstracts.{with_goal, file_problem}
use Rattle.abstraction.proofs.AppendedRows.{no_rounds}
use Rattle.abstraction.proofs.NumberedRows.{stated_terms}
use Rattle.optimiser_steps.specs.Meanings.{declared_tables}

-- ---- expressions and comparisons

-- the form of an expression without variables is a constant
constant_form : (m : ℕ) (e : ExprTree) → IsExprInRange 0 e → (c : ℕ) × (normal_form m e ≡ constant c)
constant_form m (number n) h = (n % m, refl)
constant_form m (variable k) h = absurd (let lt : k < 0 = h in omega arith)
constant_form m (plus e g) h =
    let x = constant_form m e h.0 in
    let y = constant_form m g h.1 in
    ((x.0 + y.0) % m, rw (x.1, y.1) refl)
constant_form m (minus e g) h =
    let x = constant_form m e h.0 in
    let y = constant_form m g h.1 in
    ((x.0 + ((m - 1) * y.0) % m) % m, rw (x.1, y.1) refl)
constant_form m (times e g) h =
    let x = constant_form m e h.0 in
    let y = constant_form m g h.1 in
    ((x.0 * y.0) % m, rw (x.1, y.1) refl)

constantly_none : (v : Bool) → atomics (constantly v) ≡ []
constantly_none true = refl
constantly_none false = refl

opposite_none : (v : Bool) → atomics (opposite (constantly v)) ≡ []
opposite_none true = refl
opposite_none false = refl

constants_none : (m : ℕ) (rel : Rel) (c d : ℕ) → atomics (compared_form m rel (constant c) (constant d)) ≡ []
constants_none m Eq c d = constantly_none (nat_eq ((c + ((m - 1) * d) % m) % m) 0)
constants_none m Ne c d = opposite_none (nat_eq ((c + ((m - 1) * d) % m) % m) 0)
constants_none m Lt c d = constantly_none (nat_lt c d)
constants_none m Gt c d = constantly_none (nat_lt d c)
constants_none m Ge c d = opposite_none (nat_lt c d)
constants_none m Le c d = opposite_none (nat_lt d c)

cond_none : (m tests : ℕ) (b : CondTree) → IsCondInRange tests 0 b → cond_comparisons m b ≡ []
cond_none m tests always h = refl
cond_none m tests never h = refl
cond_none m tests (named k) h = refl
cond_none m tests (compared rel e g) h =
    let x = constant_form m e h.0 in
    let y = constant_form m g h.1 in
    rw (x.1, y.1) (constants_none m rel x.0 y.0)
cond_none m tests (negation b) h = cond_none m tests b h
cond_none m tests (both b c) h = rw (cond_none m tests b h.0, cond_none m tests c h.1) refl
cond_none m tests (either b c) h = rw (cond_none m tests b h.0, cond_none m tests c h.1) refl

-- ---- programs

prog_none : (m tests actions : ℕ) (p : ProgTree) → IsProgInRange tests actions 0 p → prog_comparisons m p ≡ []
prog_none m tests actions empty h = refl
prog_none m tests actions (skip_then rest) h = prog_none m tests actions rest h
prog_none m tests actions (abort_then rest) h = prog_none m tests actions rest h
prog_none m tests actions (assert_then b rest) h = rw (cond_none m tests b h.0, prog_none m tests actions rest h.1) refl
prog_none m tests actions (act_then a rest) h = prog_none m tests actions rest h.1
prog_none m tests actions (assign_then x e rest) h = prog_none m tests actions rest h.2
prog_none m tests actions (branch_then b p q rest) h =
    rw (cond_none m tests b h.0, prog_none m tests actions p h.1, prog_none m tests actions q h.2, prog_none m tests actions rest h.3) refl
prog_none m tests actions (loop_then b p rest) h = rw (cond_none m tests b h.0, prog_none m tests actions p h.1, prog_none m tests actions rest h.2) refl

unassigned : (m tests actions : ℕ) (p : ProgTree) → IsProgInRange tests actions 0 p → prog_assignments m p ≡ []
unassigned m tests actions empty h = refl
unassigned m tests actions (skip_then rest) h = unassigned m tests actions rest h
unassigned m tests actions (abort_then rest) h = unassigned m tests actions rest h
unassigned m tests actions (assert_then b rest) h = unassigned m tests actions rest h.1
unassigned m tests actions (act_then a rest) h = unassigned m tests actions rest h.1
unassigned m tests actions (assign_then x e rest) h = absurd (let lt : x < 0 = h.0 in omega arith)
unassigned m tests actions (branch_then b p q rest) h =
    rw (unassigned m tests actions p h.1, unassigned m tests actions q h.2, unassigned m tests actions rest h.3) refl
unassigned m tests actions (loop_then b p rest) h = rw (unassigned m tests actions p h.1, unassigned m tests actions rest h.2) refl

-- ---- files

module _ (f : FileParts) (none : f.vars ≡ 0) (b : CondTree) (p : ProgTree) (c : CondTree)
    (in_b : IsCondInRange f.tests f.vars b) (in_p : IsProgInRange f.tests f.actions f.vars p) (in_c : IsCondInRange f.tests f.vars c) where
  abbrev Posed : FileParts
  Posed = with_goal f (triple b (prog_side p) c)

  no_comparisons : first_comparisons Posed ≡ []
  no_comparisons =
      let m = modulus f.width in
      let first = cond_none m f.tests b (subst (λ v. IsCondInRange f.tests v b) none in_b) in
      let body = prog_none m f.tests f.actions p (subst (λ v. IsProgInRange f.tests f.actions v p) none in_p) in
      let last = cond_none m f.tests c (subst (λ v. IsCondInRange f.tests v c) none in_c) in
      rw (first, body, last) refl

  no_assignments : file_assignments Posed ≡ []
  no_assignments = rw (unassigned (modulus f.width) f.tests f.actions p (subst (λ v. IsProgInRange f.tests f.actions v p) none in_p)) refl

  -- the tables of a triple have only the tests and actions of the file
  pub triple_tables : tables_of Posed ≡ declared_tables f
  triple_tables = rw (no_comparisons, no_assignments, no_rounds f.rounds (modulus f.width) (MAX_TESTS - f.tests)) refl

  pub triple_hyps : (file_problem Posed).hyps ≡ f.hyps
  triple_hyps =
      ap (λ (t : Tables). map (λ (h : Hypothesis). h.term) (hypotheses t f.hyps)) triple_tables
      ∙ ap (λ (hs : List Hypothesis). map (λ h. h.term) hs) (append-nil (stated_from 0 f.hyps))
      ∙ stated_terms 0 f.hyps
