-- Whether a string breaks a hypothesis, from its first atom on.
use Rattle.std.proofs.Common.{◌≡◌, ◌↔◌, ◌⊎◌, ◌<◌, ◌≤◌, ◌+◌, inl, inr, ⊎_elim, ℕ, suc, List, [], ◌∷◌, length, drop, get_or, sym, subst, false, arith}
use Rattle.std.specs.Bool.{IsTrue}
use Rattle.std.proofs.lemmas.Bool.{both_ways, false_from_ne_true}
use Rattle.std.proofs.Math.Seq.{drop-cons}
use Rattle.std.proofs.lemmas.List.{drop_all}
use Rattle.kat_model.specs.Trees.{Term}
use Rattle.kat_model.specs.Steps.{Atom, out}
use Rattle.kat_model.specs.Strings.{Move, accepts}
use Rattle.goal_forms.specs.Broken.{IsBrokenBy}
use Rattle.goal_forms.proofs.FewerHypotheses.{first_breaks}

-- a move that the hypothesis does not accept, to an atom that it does not accept
pub unbroken_on : (h : Term) (from : Atom) (m : Move) → (IsTrue (accepts h from (m ∷ [])) ⊎ IsTrue (out h m.atom) → ⊥) → (accepts h from (m ∷ []) ≡ false) × (out h m.atom ≡ false)
unbroken_on h from m none = (false_from_ne_true (accepts h from (m ∷ [])) (λ t. none (inl t)), false_from_ne_true (out h m.atom) (λ t. none (inr t)))

module _ (h : Term) (first : Atom) (ms : List Move) where
  -- the rest of the string from a move on
  abbrev pub IsRest : Atom → ℕ → Type 0
  IsRest from k = IsBrokenBy h first ms ↔ IsBrokenBy h from (drop k ms)

  pub rest_start : IsRest first 0
  rest_start = ((λ b. b), (λ b. b))

  module _ (from : Atom) (k : ℕ) (m : Move) (lt : k < length ms) (is : m ≡ get_or ms k m) (rest : IsRest from k) where
    next : drop k ms ≡ m ∷ drop (k + 1) ms
    next =
        let more : suc k ≡ k + 1 = omega arith in
        subst (λ n. drop k ms ≡ m ∷ drop n ms) more (subst (λ (y : Move). drop k ms ≡ y ∷ drop (suc k) ms) (sym is) (drop-cons ms k m lt))

    -- the move breaks the hypothesis, or the atom after it does
    pub broken_here : IsTrue (accepts h from (m ∷ [])) → IsBrokenBy h first ms
    broken_here t = rest.1 (subst (IsBrokenBy h from) (sym next) (inr (inl t)))

    pub broken_after : IsTrue (out h m.atom) → IsBrokenBy h first ms
    broken_after t = rest.1 (subst (IsBrokenBy h from) (sym next) (inr (inr (first_breaks h m.atom (drop (k + 1) ms) t))))

    pub rest_next : out h from ≡ false → accepts h from (m ∷ []) ≡ false → IsRest m.atom (k + 1)
    rest_next none no_move = (
      (λ b.
          ⊎_elim
          (λ o. absurd (both_ways (out h from) none o))
          (λ r. ⊎_elim (λ t. absurd (both_ways (accepts h from (m ∷ [])) no_move t)) (λ l. l) r)
          (subst (IsBrokenBy h from) next (rest.0 b))),
      (λ b. rest.1 (subst (IsBrokenBy h from) (sym next) (inr (inr b)))),
    )

  pub rest_end : (from : Atom) (k : ℕ) → IsRest from k → out h from ≡ false → length ms ≤ k → IsBrokenBy h first ms → ⊥
  rest_end from k rest none past b = both_ways (out h from) none (subst (IsBrokenBy h from) (drop_all k ms past) (rest.0 b))
