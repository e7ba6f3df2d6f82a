-- The derived order of places is the order of their turns.
use Rattle.std.proofs.Common.{Ordering, Less, Equal, Greater, ◌≡◌, ℕ, ◌<◌, ◌⊎◌, inl, inr, ⊎_elim, [], ◌∷◌, refl, sym, ap, ◌∙◌, subst, arith, true, false, cond, Option, Some, None}
use Rattle.std.specs.Option.{option_cmp}
use Rattle.std.specs.Ordering.{MatchOrdering, nat_cmp, bool_cmp, ordering_then, ordering_reverse, ord_min, is_lt}
use Rattle.std.specs.Cmp.Lexicographic.{slice_cmp}
use Rattle.std.proofs.lemmas.Cmp.{ranked}
use Rattle.kat_model.specs.Steps.{Atom}
use Rattle.cert_checker.specs.declared.places.Place.{Place}
use Rattle.cert_checker.specs.contracts.places.PlaceOrd.TheImpl.{ghosts}
use Rattle.cert_checker.specs.contracts.places.PlaceOrd.TheImpl.Laws.{total-law}
use Rattle.cert_checker.specs.Answers.{IsEarlier}
use Rattle.cert_checker.specs.AtomOrder.{IsLess}
use Rattle.cert_checker.specs.Working.Places.{IsLeastOf, turn_at, turn_number}

-- ---- the order of each part

then_less : (o p : Ordering) → (o ≡ Less) ⊎ ((o ≡ Equal) × (p ≡ Less)) → ordering_then o p ≡ Less
then_less Less p h = refl
then_less Equal p h = ⊎_elim (λ e. absurd cc) (λ k. k.1) h
then_less Greater p h = ⊎_elim (λ e. absurd cc) (λ k. absurd cc) h

nat_less : (m n : ℕ) → m < n → nat_cmp m n ≡ Less
nat_less m n h = go (nat_cmp m n) (ranked m n (nat_cmp m n) refl)
  where
    go : (r : Ordering) → MatchOrdering r (m < n) (m ≡ n) (n < m) → r ≡ Less
    go Less k = refl
    go Equal k = absurd (omega (arith, k, h))
    go Greater k = absurd (omega (arith, k, h))

nat_same : (m n : ℕ) → m ≡ n → nat_cmp m n ≡ Equal
nat_same m n h = go (nat_cmp m n) (ranked m n (nat_cmp m n) refl)
  where
    go : (r : Ordering) → MatchOrdering r (m < n) (m ≡ n) (n < m) → r ≡ Equal
    go Less k = absurd (omega (arith, k, h))
    go Equal k = refl
    go Greater k = absurd (omega (arith, k, h))

atom_less : (xs ys : Atom) → IsLess xs ys → slice_cmp bool_cmp xs ys ≡ Less
atom_less [] ys h = absurd h
atom_less (x ∷ xs) [] h = absurd h
atom_less (false ∷ xs) (true ∷ ys) h = refl
atom_less (true ∷ xs) (false ∷ ys) h = absurd h
atom_less (false ∷ xs) (false ∷ ys) h = atom_less xs ys h
atom_less (true ∷ xs) (true ∷ ys) h = atom_less xs ys h

atom_same : (xs : Atom) → slice_cmp bool_cmp xs xs ≡ Equal
atom_same [] = refl
atom_same (false ∷ xs) = atom_same xs
atom_same (true ∷ xs) = atom_same xs

action_less : (o p : Option ℕ) → turn_number o < turn_number p → option_cmp nat_cmp o p ≡ Less
action_less None None h = absurd (omega (arith, h))
action_less None (Some b) h = refl
action_less (Some a) None h = absurd (omega (arith, h))
action_less (Some a) (Some b) h = nat_less a b (omega (arith, h))

action_same : (o p : Option ℕ) → turn_number o ≡ turn_number p → option_cmp nat_cmp o p ≡ Equal
action_same None None h = refl
action_same None (Some b) h = absurd (omega (arith, h))
action_same (Some a) None h = absurd (omega (arith, h))
action_same (Some a) (Some b) h = nat_same a b (omega (arith, h))

-- ---- places

place_less : (x y : Place) → IsEarlier (turn_at x) (turn_at y) → ghosts.cmp x y ≡ Less
place_less x y h =
    then_less (nat_cmp x.pair y.pair) _
    (⊎_elim
    (λ e. absurd (omega (arith, e)))
    (λ a. ⊎_elim (λ e. inl (nat_less x.pair y.pair e))
    (λ b. inr (
      nat_same x.pair y.pair b.0,
      then_less (slice_cmp bool_cmp x.atom.items y.atom.items) _
          (⊎_elim (λ e. inl (atom_less x.atom.items y.atom.items e))
          (λ d. inr (
            subst (λ z. slice_cmp bool_cmp x.atom.items z ≡ Equal) d.0 (atom_same x.atom.items),
            then_less (option_cmp nat_cmp x.action y.action) _
                (⊎_elim (λ e. inl (action_less x.action y.action e))
                (λ w. inr (action_same x.action y.action w.0, atom_less x.to.items y.to.items w.1))
                d.1),
          ))
          b.1),
    ))
    a.1)
    h)

less_equal : Less ≡ Equal → ⊥
less_equal e = cc

less_greater : Less ≡ Greater → ⊥
less_greater e = cc

pub least_given : (x y r : Place) → r ≡ ord_min ghosts.cmp x y → IsLeastOf (Some x) (Some y) (Some r)
least_given x y r e = go (ghosts.cmp y x) refl
  where
    go : (o : Ordering) → ghosts.cmp y x ≡ o → IsLeastOf (Some x) (Some y) (Some r)
    go Less f = inr (ap Some (e ∙ ap (λ z. cond (is_lt z) y x) f), λ h. less_greater (sym (place_less x y h) ∙ total-law.antisymm x y ∙ ap ordering_reverse f))
    go Equal f = inl (ap Some (e ∙ ap (λ z. cond (is_lt z) y x) f), λ h. less_equal (sym (place_less y x h) ∙ f))
    go Greater f = inl (ap Some (e ∙ ap (λ z. cond (is_lt z) y x) f), λ h. less_greater (sym (place_less y x h) ∙ f))
