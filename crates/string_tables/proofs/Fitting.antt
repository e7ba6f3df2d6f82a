-- A string has no misfit exactly when it is a string of the problem.
use Rattle.std.proofs.Common.{◌≡◌, ◌<◌, ℕ, suc, ◌↔◌, inl, inr, ⊎_elim, List, [], ◌∷◌, length, Option, Some, None, Bool, true, false, cond, refl, subst}
use Rattle.std.proofs.lemmas.Bool.{and_parts, and_from, ltb-true, lt-ltb, eqb-true, eq-eqb}
use Rattle.kat_model.specs.Problems.{ProblemParts}
use Rattle.kat_model.specs.Strings.{Move, GuardedString, IsString, AreMoves}
use Rattle.string_tables.specs.Findings.{misfit_from, misfit}

-- a chain of tests gives `None` exactly when each test holds
module _ {X : Type 0} where
  passed : (b : Bool) (o : Option X) (x : X) → cond b o (Some x) ≡ None → (b ≡ true) × (o ≡ None)
  passed true o x h = (refl, h)
  passed false o x h = absurd cc

  passes : (b : Bool) (o : Option X) (x : X) → b ≡ true → o ≡ None → cond b o (Some x) ≡ None
  passes b o x t n = rw t n

module _ (tests actions : ℕ) where
  none_are_moves : (k : ℕ) (ms : List Move) → misfit_from tests actions k ms ≡ None → AreMoves tests actions ms
  none_are_moves k [] e m h = absurd h
  none_are_moves k (n ∷ ms) e m h =
      let p = passed _ _ _ e in
      let t = and_parts _ _ p.0 in
      ⊎_elim (λ s. subst (λ o. (o.act < actions) × (length o.atom ≡ tests)) s (ltb-true n.act actions t.0, eqb-true (length n.atom) tests t.1)) (none_are_moves (suc k) ms p.1 m) h

  are_moves_none : (k : ℕ) (ms : List Move) → AreMoves tests actions ms → misfit_from tests actions k ms ≡ None
  are_moves_none k [] are = refl
  are_moves_none k (m ∷ ms) are =
      let p = are m (inl refl) in
      passes _ _ _ (and_from _ _ (lt-ltb m.act actions p.0) (eq-eqb (length m.atom) tests p.1)) (are_moves_none (suc k) ms (λ n h. are n (inr h)))

pub no_misfit_is_string : (q : ProblemParts) (x : GuardedString) → misfit q x ≡ None → IsString q.tests q.actions x
no_misfit_is_string q x e =
    let p = passed _ _ _ e in
    record { first = eqb-true (length x.first) q.tests p.0; rest = none_are_moves q.tests q.actions 1 x.rest p.1 }

pub string_has_no_misfit : (q : ProblemParts) (x : GuardedString) → IsString q.tests q.actions x → misfit q x ≡ None
string_has_no_misfit q x s =
    passes _ _ _ (eq-eqb (length x.first) q.tests s.first) (are_moves_none q.tests q.actions 1 x.rest s.rest)

pub fits_by_misfit : (q : ProblemParts) (x : GuardedString) → misfit q x ≡ None ↔ IsString q.tests q.actions x
fits_by_misfit q x = (no_misfit_is_string q x, string_has_no_misfit q x)
