-- What rounds over the pairs add to a set, and which properties of its members they preserve.
use Rattle.std.proofs.Common.{◌≡◌, ℕ, zero, suc, ◌⊎◌, inl, inr, ⊎_elim, List, [], ◌∷◌, ◌++◌, length, refl, Bool, true, false, ◌||◌, cond}
use Rattle.std.proofs.lemmas.Bool.{or_cases, or_left, or_right, cond-true}
use Rattle.kat_model.specs.Trees.{Term}
use Rattle.kat_model.specs.Members.{Has, IsSubset}
use Rattle.kat_model.specs.Pairs.{SetPair, holds_all, with_pair, round, rounds, sat}
use Rattle.kat_model.proofs.Lists.{has_left, has_right, has_append}
use Rattle.kat_model.proofs.SameTrees.{holds_all-true, subset-holds_all}

-- each term of the set has the property
abbrev pub Each : (Term → Type 0) → List Term → Type 0
Each P es = (x : Term) → Has es x → P x

-- if all terms of one side of a listed pair have the property, all terms of the other side have it
abbrev pub Respects : (Term → Type 0) → List SetPair → Type 0
Respects P ps = (p : SetPair) → Has ps p → (Each P p.left → Each P p.right) × (Each P p.right → Each P p.left)

-- the set contains all of one side of each pair exactly when it contains all of the other side
abbrev pub IsClosed : List SetPair → List Term → Type 0
IsClosed ps es = Respects (Has es) ps

-- the set contains all of one side of the pair; `HoldsBoth`: all of both sides
abbrev pub HoldsSide : List Term → SetPair → Type 0
HoldsSide es p = IsSubset p.left es ⊎ IsSubset p.right es

abbrev pub HoldsBoth : List Term → SetPair → Type 0
HoldsBoth es p = IsSubset p.left es × IsSubset p.right es

pub holds_side_more : (es fs : List Term) (p : SetPair) → IsSubset es fs → HoldsSide es p → HoldsSide fs p
holds_side_more es fs p s h = ⊎_elim (λ l. inl (λ x k. s x (l x k))) (λ r. inr (λ x k. s x (r x k))) h

pub holds_both_more : (es fs : List Term) (p : SetPair) → IsSubset es fs → HoldsBoth es p → HoldsBoth fs p
holds_both_more es fs p s h = ((λ x k. s x (h.0 x k)), (λ x k. s x (h.1 x k)))

-- a member of the set with one pair added is a member of the set, or of the pair if the set contains one of its sides
has_with_pair : (es : List Term) (p : SetPair) (x : Term) → Has (with_pair es p) x → Has es x ⊎ (HoldsSide es p × (Has p.left x ⊎ Has p.right x))
has_with_pair es p x h = go (holds_all es p.left || holds_all es p.right) refl h
  where
    held : (holds_all es p.left || holds_all es p.right) ≡ true → HoldsSide es p
    held t = ⊎_elim (λ l. inl (holds_all-true es p.left l)) (λ r. inr (holds_all-true es p.right r)) (or_cases _ _ t)

    go : (c : Bool) → (holds_all es p.left || holds_all es p.right) ≡ c → Has (cond c (es ++ p.left ++ p.right) es) x → Has es x ⊎ (HoldsSide es p × (Has p.left x ⊎ Has p.right x))
    go true t k =
        ⊎_elim
        (λ l. ⊎_elim inl (λ m. inr (held t, inl m)) (has_append es p.left x l))
        (λ r. inr (held t, inr r))
        (has_append (es ++ p.left) p.right x k)
    go false t k = inl k

with_pair_keeps : (es : List Term) (p : SetPair) → IsSubset es (with_pair es p)
with_pair_keeps es p x h = go (holds_all es p.left || holds_all es p.right)
  where
    go : (c : Bool) → Has (cond c (es ++ p.left ++ p.right) es) x
    go true = has_left (es ++ p.left) p.right x (has_left es p.left x h)
    go false = h

with_pair_has : (es : List Term) (p : SetPair) → HoldsSide es p → HoldsBoth (with_pair es p) p
with_pair_has es p s =
    rw is_larger ((λ x h. has_left (es ++ p.left) p.right x (has_right es p.left x h)), (λ x h. has_right (es ++ p.left) p.right x h))
  where
    held : (holds_all es p.left || holds_all es p.right) ≡ true
    held = ⊎_elim (λ l. or_left _ _ (subset-holds_all es p.left l)) (λ r. or_right _ _ (subset-holds_all es p.right r)) s

    is_larger : with_pair es p ≡ es ++ p.left ++ p.right
    is_larger = cond-true _ _ _ held

-- rounds keep the members of the set
pub round_keeps : (ps : List SetPair) (es : List Term) → IsSubset es (round ps es)
round_keeps [] es x h = h
round_keeps (p ∷ ps) es x h = round_keeps ps (with_pair es p) x (with_pair_keeps es p x h)

pub rounds_keep : (n : ℕ) (ps : List SetPair) (es : List Term) → IsSubset es (rounds n ps es)
rounds_keep zero ps es x h = h
rounds_keep (suc n) ps es x h = rounds_keep n ps (round ps es) x (round_keeps ps es x h)

pub sat_keeps : (ps : List SetPair) (es : List Term) → IsSubset es (sat ps es)
sat_keeps ps es = rounds_keep (length ps) ps es

-- rounds preserve a property that the pairs respect
module _ (P : Term → Type 0) where
  with_pair_each : (es : List Term) (p : SetPair) → (Each P p.left → Each P p.right) × (Each P p.right → Each P p.left) → Each P es → Each P (with_pair es p)
  with_pair_each es p r e x h = ⊎_elim (e x) (λ k. ⊎_elim ((sides k.0).0 x) ((sides k.0).1 x) k.1) (has_with_pair es p x h)
    where
      sides : HoldsSide es p → Each P p.left × Each P p.right
      sides s =
          ⊎_elim
          (λ l. let each : Each P p.left = λ y m. e y (l y m) in (each, r.0 each))
          (λ l. let each : Each P p.right = λ y m. e y (l y m) in (r.1 each, each))
          s

  round_each : (ps : List SetPair) (es : List Term) → Respects P ps → Each P es → Each P (round ps es)
  round_each [] es r e = e
  round_each (p ∷ ps) es r e = round_each ps (with_pair es p) (λ q h. r q (inr h)) (with_pair_each es p (r p (inl refl)) e)

  pub rounds_each : (n : ℕ) (ps : List SetPair) (es : List Term) → Respects P ps → Each P es → Each P (rounds n ps es)
  rounds_each zero ps es r e = e
  rounds_each (suc n) ps es r e = rounds_each n ps (round ps es) r (round_each ps es r e)

  pub sat_each : (ps : List SetPair) (es : List Term) → Respects P ps → Each P es → Each P (sat ps es)
  sat_each ps es = rounds_each (length ps) ps es

-- a round adds both sides of a pair if the set contains one of them
pub round_has : (ps : List SetPair) (es : List Term) (p : SetPair) → Has ps p → HoldsSide es p → HoldsBoth (round ps es) p
round_has [] es p h s = absurd h
round_has (q ∷ ps) es p h s =
    ⊎_elim
    (λ e. rw e (holds_both_more _ _ p (round_keeps ps (with_pair es p)) (with_pair_has es p s)))
    (λ k. round_has ps (with_pair es q) p k (holds_side_more _ _ p (with_pair_keeps es q) s))
    h
