-- A balanced sum accepts, steps to and relates what its members do.
use Rattle.std.proofs.Common.{◌≡◌, ℕ, inl, inr, ⊎_elim, ◌↔◌, List, [], ◌∷◌, ◌++◌, refl, sym, ◌∙◌, subst, ◌||◌}
use mathlib.Core.Path.{ap₂}
use Rattle.std.proofs.lemmas.List.{append-nil}
use Rattle.std.proofs.lemmas.Grind.{flat_map-append}
use Rattle.kat_model.specs.Trees.{Term, zero as term_zero, sum}
use Rattle.kat_model.specs.Members.{Has}
use Rattle.kat_model.specs.Steps.{Atom, out, next, set_out, set_next}
use Rattle.kat_model.specs.Relations.{Frame, RelatesIn, SomeRelates}
use Rattle.kat_model.specs.Strings.{Move, accepts, set_accepts}
use Rattle.kat_model.specs.Balanced.{sum_of}
use Rattle.kat_model.proofs.Lists.{has_left, has_right, has_append}
use Rattle.kat_model.proofs.Acceptance.{accepts-zero, accepts-sum, set_accepts-single, set_accepts-append}
use Rattle.kat_model.proofs.BalancedTrees.{balanced_holds}

pub accepts-sum_of : (es : List Term) (atom : Atom) (ms : List Move) → accepts (sum_of es) atom ms ≡ set_accepts es atom ms
accepts-sum_of es atom ms =
    balanced_holds term_zero sum
    (λ fs e. accepts e atom ms ≡ set_accepts fs atom ms)
    (accepts-zero atom ms)
    (λ e. sym (set_accepts-single e atom ms))
    (λ fs gs a b p q. accepts-sum a b atom ms ∙ ap₂ (λ x y. x || y) p q ∙ sym (set_accepts-append fs gs atom ms))
    es

pub next-sum_of : (es : List Term) (atom : Atom) (a : ℕ) → next (sum_of es) atom a ≡ set_next es atom a
next-sum_of es atom a =
    balanced_holds term_zero sum
    (λ fs e. next e atom a ≡ set_next fs atom a)
    refl
    (λ e. sym (append-nil (next e atom a)))
    (λ fs gs e f p q. ap₂ (λ xs ys. xs ++ ys) p q ∙ sym (flat_map-append (λ g. next g atom a) fs gs))
    es

pub out-sum_of : (es : List Term) (atom : Atom) → out (sum_of es) atom ≡ set_out es atom
out-sum_of es atom = accepts-sum_of es atom []

module _ {S : Type 0} (frame : Frame S) (i j : S) where
  -- a sum relates two states exactly when some member does
  pub sum_of_relations : (es : List Term) → RelatesIn frame (sum_of es) i j ↔ SomeRelates frame es i j
  sum_of_relations es = balanced_holds term_zero sum (λ fs e. RelatesIn frame e i j ↔ SomeRelates frame fs i j) none one two es
    where
      none : RelatesIn frame term_zero i j ↔ SomeRelates frame [] i j
      none = ((λ r. absurd r), (λ s. absurd s.1))

      one : (e : Term) → RelatesIn frame e i j ↔ SomeRelates frame (e ∷ []) i j
      one e = ((λ r. (e, inl refl, r)), (λ s. ⊎_elim (λ p. subst (λ f. RelatesIn frame f i j) (sym p) s.2) absurd s.1))

      two : (fs gs : List Term) (a b : Term) → RelatesIn frame a i j ↔ SomeRelates frame fs i j → RelatesIn frame b i j ↔ SomeRelates frame gs i j → RelatesIn frame (sum a b) i j ↔ SomeRelates frame (fs ++ gs) i j
      two fs gs a b p q = (
        (λ r. ⊎_elim (λ x. let s = p.0 x in (s.0, has_left fs gs s.0 s.1, s.2)) (λ y. let s = q.0 y in (s.0, has_right fs gs s.0 s.1, s.2)) r),
        (λ s. ⊎_elim (λ x. inl (p.1 (s.0, x, s.2))) (λ y. inr (q.1 (s.0, y, s.2))) (has_append fs gs s.0 s.1)),
      )

  -- if a sum relates two states, some member does
  pub relates_sum_of : (es : List Term) → RelatesIn frame (sum_of es) i j → (e : Term) × Has es e × RelatesIn frame e i j
  relates_sum_of es r = (sum_of_relations es).0 r

  -- if a member relates two states, the sum does
  pub sum_of_relates : (es : List Term) (e : Term) → Has es e → RelatesIn frame e i j → RelatesIn frame (sum_of es) i j
  sum_of_relates es e h r = (sum_of_relations es).1 (e, h, r)
