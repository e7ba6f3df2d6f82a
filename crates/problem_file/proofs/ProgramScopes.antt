-- The scopes of texts of programs, and the programs printed with their names.
use Rattle.std.proofs.Common.{◌≡◌, ◌<◌, ◌≤◌, ◌^◌, ℕ, zero, suc, List, [], Bool, true, false, ⊎_elim, inl, inr, refl, sym, ap, ◌∙◌, subst, arith}
use Rattle.std.proofs.lemmas.Bool.{cases_lt, true≢false}
use Rattle.std.proofs.lemmas.Option.{none-some, same_Some}
use Rattle.std.specs.Ordering.{nat_cmp}
use Rattle.std.specs.Cmp.Lexicographic.{slice_cmp}
use Rattle.std.specs.FinMap.{get-empty}
use Rattle.kat_model.specs.declared.limits.TheConstants.{MAX_VARS}
use Rattle.kat_model.specs.declared.expression.Width.{Width}
use Rattle.kat_model.specs.declared.expression.Width.TheVariants.{W8, W16, W32, W64}
use Rattle.kat_model.specs.Stores.{modulus}
use Rattle.kat_model.specs.Expressions.{ExprTree, number, variable, plus, minus, times, CondTree, always, never, named, compared, negation, both, either}
use Rattle.text_parser.specs.declared.meaning.Meaning.{Meaning}
use Rattle.text_parser.specs.declared.meaning.Meaning.TheVariants.{Var, Prog}
use Rattle.text_parser.specs.ScopeParts.{ScopeParts, meaning, Means, IsUndeclared, IsNameOf, empty_scope, declared}
use Rattle.text_parser.proofs.Inverse.{insert_extends}
use Rattle.text_print.specs.Printing.{ExprIsNamed, CondIsNamed}
use Rattle.while_lang.specs.Programs.{ProgTree, empty, skip_then, abort_then, assert_then, act_then, assign_then, branch_then, loop_then}
use Rattle.while_lang.specs.ProgramPrinting.{ProgIsNamed}
use Rattle.while_lang.specs.Ranges.{IsExprInRange, IsCondInRange, IsProgInRange}
use Rattle.problem_file.specs.ProgramNumbers.{ExprIsNarrow, CondIsNarrow, ProgIsNarrow}
use Rattle.problem_file.specs.ProgramTexts.{var_name, AreVarNames}
use Rattle.problem_file.proofs.PlainNames.{var_identifier, same_var_number}
use Rattle.problem_file.proofs.PlainScopes.{none_from}

-- ---- variables

-- the names of fewer variables are such names too
pub fewer_names : (names : Meaning → List ℕ) (v u : ℕ) → u ≤ v → AreVarNames names v → AreVarNames names u
fewer_names names v u le h = record {
  identifiers = λ k lt. h.identifiers k (omega (arith, lt, le));
  apart = λ j k lj lk e. h.apart j k (omega (arith, lj, le)) (omega (arith, lk, le)) e;
}

-- x0, x1, .. are such names
pub plain_names : (v : ℕ) → v ≤ MAX_VARS → AreVarNames var_name v
plain_names v few = record {
  identifiers = λ k lt. var_identifier k (omega (arith, lt, few));
  apart = λ j k lj lk e. same_var_number j k (omega (arith, lj, few)) (omega (arith, lk, few)) e;
}

module _ (names : Meaning → List ℕ) where
  -- the scope of a number of variables
  abbrev pub vars_scope : ℕ → ScopeParts
  vars_scope zero = empty_scope
  vars_scope (suc n) = declared (vars_scope n) (names (Var n)) (Var n)

  pub no_terms : (v : ℕ) → (vars_scope v).terms ≡ []
  no_terms zero = refl
  no_terms (suc n) = no_terms n

  -- the scope declares the names of `v` variables and no others
  pub record IsOfVars (w : ScopeParts) (v : ℕ) : Type 0 where
    pub means : (k : ℕ) → k < v → Means w (names (Var k)) (Var k)
    pub names_only : (name : List ℕ) (m : Meaning) → Means w name m → (k : ℕ) × (k < v) × (name ≡ names (Var k)) × (m ≡ Var k)

  empty_vars : IsOfVars empty_scope 0
  empty_vars = record {
    means = λ k lt. absurd (omega arith);
    names_only = λ name m e. absurd (none-some m (sym (get-empty (slice_cmp nat_cmp) name) ∙ e));
  }

  -- a name that is not a variable's is undeclared
  pub name_is_new : (w : ScopeParts) (v : ℕ) (name : List ℕ) → IsOfVars w v → ((k : ℕ) → k < v → names (Var k) ≡ name → ⊥) → IsUndeclared w name
  name_is_new w v name h none = none_from (meaning w name) (λ m e. let old = h.names_only name m e in none old.0 old.1 (sym old.2))

  var_is_new : (w : ScopeParts) (v : ℕ) → AreVarNames names (suc v) → IsOfVars w v → IsUndeclared w (names (Var v))
  var_is_new w v are h = name_is_new w v (names (Var v)) h (λ k below e. let same : k ≡ v = are.apart k v (omega arith) (omega arith) e in omega arith)

  -- an additional variable
  more_vars : (w : ScopeParts) (v : ℕ) → AreVarNames names (suc v) → IsOfVars w v → IsOfVars (declared w (names (Var v)) (Var v)) (suc v)
  more_vars w v are h =
      let name = names (Var v) in
      let new = declared w name (Var v) in
      let more = insert_extends w.meanings name (Var v) in
      record {
        means = λ k lt. elim (cases_lt k v) [
          | inl below ↦ ⊎_elim
              (λ (p : names (Var k) ≡ name). absurd (let same : k ≡ v = are.apart k v (omega arith) (omega arith) p in omega arith))
              (λ (q : meaning new (names (Var k)) ≡ meaning w (names (Var k))). q ∙ h.means k below)
              (more.others (names (Var k)))
          | inr above ↦ let same : v ≡ k = omega arith in subst (λ (j : ℕ). Means new (names (Var j)) (Var j)) same more.here
        ];
        names_only = λ name' m e. ⊎_elim
            (λ (p : name' ≡ name).
            let same : Var v ≡ m = same_Some (Var v) m (sym more.here ∙ ap (meaning new) (sym p) ∙ e) in
            (v, omega arith, p, sym same))
            (λ (q : meaning new name' ≡ meaning w name'). let old = h.names_only name' m (sym q ∙ e) in let below = old.1 in (old.0, omega arith, old.2, old.3))
            (more.others name');
      }

  pub vars_known : (v : ℕ) → AreVarNames names v → IsOfVars (vars_scope v) v
  vars_known zero are = empty_vars
  vars_known (suc n) are = more_vars (vars_scope n) n are (vars_known n (fewer_names names (suc n) n (omega arith) are))

  pub next_is_new : (v : ℕ) → AreVarNames names (suc v) → IsUndeclared (vars_scope v) (names (Var v))
  next_is_new v are = var_is_new (vars_scope v) v are (vars_known v (fewer_names names (suc v) v (omega arith) are))

  -- each of the first `v` variables has its only name
  abbrev pub VarsNamed : ScopeParts → ℕ → Type 0
  VarsNamed w v = (k : ℕ) → k < v → IsNameOf w (names (Var k)) (Var k)

  pub vars_named : (w : ScopeParts) (v : ℕ) → AreVarNames names v → IsOfVars w v → VarsNamed w v
  vars_named w v are h k below = record {
    means = h.means k below;
    identifier = are.identifiers k below;
    only = λ other e. let old = h.names_only other (Var k) e in old.2 ∙ ap names (sym old.3);
  }

-- ---- programs

is_prog : Meaning → Bool
is_prog (Prog i) = true
is_prog m = false

prog_no_var : (i k : ℕ) → Prog i ≡ Var k → ⊥
unfolding is_prog
prog_no_var i k e = true≢false (ap is_prog e)

-- an additional name does not change the meaning of another
pub kept : (w : ScopeParts) (name other : List ℕ) (m : Meaning) → (other ≡ name → ⊥) → meaning (declared w name m) other ≡ meaning w other
kept w name other m apart =
    ⊎_elim
    (λ (p : other ≡ name). absurd (apart p))
    (λ (q : meaning (declared w name m) other ≡ meaning w other). q)
    ((insert_extends w.meanings name m).others other)

pub declared_means : (w : ScopeParts) (name : List ℕ) (m : Meaning) → Means (declared w name m) name m
declared_means w name m = (insert_extends w.meanings name m).here

-- variables keep their names when a program is added
pub still_named : (names : Meaning → List ℕ) (w : ScopeParts) (v : ℕ) (name : List ℕ) (i : ℕ) → IsUndeclared w name → VarsNamed names w v → VarsNamed names (declared w name (Prog i)) v
still_named names w v name i new h k below =
    let more = insert_extends w.meanings name (Prog i) in
    let after = declared w name (Prog i) in
    let old = h k below in
    record {
      means = kept w name (names (Var k)) (Prog i) (λ p. none-some (Var k) (sym new ∙ ap (meaning w) (sym p) ∙ old.means)) ∙ old.means;
      identifier = old.identifier;
      only = λ other e. ⊎_elim
          (λ (p : other ≡ name). absurd (prog_no_var i k (same_Some (Prog i) (Var k) (sym more.here ∙ ap (meaning after) (sym p) ∙ e))))
          (λ (q : meaning after other ≡ meaning w other). old.only other (sym q ∙ e))
          (more.others other);
    }

-- ---- programs printed with these names

pub below_64 : (v : Width) (n : ℕ) → n < modulus v → n < 2 ^ 64
below_64 W8 n lt = let h : n < 256 = lt in omega arith
below_64 W16 n lt = let h : n < 65536 = lt in omega arith
below_64 W32 n lt = let h : n < 4294967296 = lt in omega arith
below_64 W64 n lt = lt

module _ (names : Meaning → List ℕ) (w : ScopeParts) (vars : ℕ) (known : VarsNamed names w vars) (v : Width) where
  expr_named : (e : ExprTree) → IsExprInRange vars e → ExprIsNarrow v e → ExprIsNamed w names e
  expr_named (number n) inside narrow = below_64 v n narrow
  expr_named (variable k) inside narrow = known k inside
  expr_named (plus e f) inside narrow = (expr_named e inside.0 narrow.0, expr_named f inside.1 narrow.1)
  expr_named (minus e f) inside narrow = (expr_named e inside.0 narrow.0, expr_named f inside.1 narrow.1)
  expr_named (times e f) inside narrow = (expr_named e inside.0 narrow.0, expr_named f inside.1 narrow.1)

  pub cond_named : (b : CondTree) → IsCondInRange 0 vars b → CondIsNarrow v b → CondIsNamed w names b
  cond_named always inside narrow = tt
  cond_named never inside narrow = tt
  cond_named (named k) inside narrow = absurd (omega arith)
  cond_named (compared r e f) inside narrow = (expr_named e inside.0 narrow.0, expr_named f inside.1 narrow.1)
  cond_named (negation b) inside narrow = cond_named b inside narrow
  cond_named (both b c) inside narrow = (cond_named b inside.0 narrow.0, cond_named c inside.1 narrow.1)
  cond_named (either b c) inside narrow = (cond_named b inside.0 narrow.0, cond_named c inside.1 narrow.1)

  pub prog_named : (p : ProgTree) → IsProgInRange 0 0 vars p → ProgIsNarrow v p → ProgIsNamed w names p
  prog_named empty inside narrow = tt
  prog_named (skip_then rest) inside narrow = prog_named rest inside narrow
  prog_named (abort_then rest) inside narrow = prog_named rest inside narrow
  prog_named (assert_then b rest) inside narrow = (cond_named b inside.0 narrow.0, prog_named rest inside.1 narrow.1)
  prog_named (act_then a rest) inside narrow = let none = inside.0 in absurd (omega arith)
  prog_named (assign_then x e rest) inside narrow = (known x inside.0, expr_named e inside.1 narrow.1, prog_named rest inside.2 narrow.2)
  prog_named (branch_then b p q rest) inside narrow = (cond_named b inside.0 narrow.0, prog_named p inside.1 narrow.1, prog_named q inside.2 narrow.2, prog_named rest inside.3 narrow.3)
  prog_named (loop_then b p rest) inside narrow = (cond_named b inside.0 narrow.0, prog_named p inside.1 narrow.1, prog_named rest inside.2 narrow.2)
