-- The pairs of sets that strings lead to from two terms, as a list that steps do not leave.
use Rattle.std.proofs.Common.{◌≡◌, ◌⊎◌, ◌<◌, ◌≤◌, ◌+◌, ◌*◌, ◌^◌, ℕ, zero, suc, inl, inr, ⊎_elim, List, [], ◌∷◌, length, Bool, true, false, ◌&&◌, refl, sym, ◌∙◌, subst, arith}
use Rattle.std.specs.List.{list_any}
use Rattle.std.proofs.lemmas.Bool.{and_parts, and_from, true≢false, cases_eq}
use Rattle.kat_model.specs.Trees.{Term, acts}
use Rattle.kat_model.specs.Members.{Has, IsSubset, SameMembers}
use Rattle.kat_model.specs.Steps.{Atom, set_next, reach}
use Rattle.kat_model.specs.Strings.{Move, AreMoves, set_accepts}
use Rattle.kat_model.specs.Pairs.{SetPair, holds_all, IsListed, AllDiffer}
use Rattle.kat_model.specs.Laws.{AreReached}
use Rattle.kat_model.proofs.Lists.{has_any, any_has}
use Rattle.kat_model.proofs.SameTrees.{holds_all-true, subset-holds_all}
use Rattle.kat_model.proofs.Acceptance.{set_accepts-cons}
use Rattle.kat_model.proofs.Counting.{all_bits, all_bits_has}
use Rattle.kat_model.proofs.Bounds.{pairs_bound}
use Rattle.kat_model.proofs.ReachedPairs.{next_within, start_pair}
use Rattle.kat_axioms.proofs.Atoms.{all_bits_length}

-- ---- search

-- each member has the first property, or some member has the second
all_or_some : {X : Type 0} (P Q : X → Type 0) (xs : List X) → ((x : X) → Has xs x → P x ⊎ Q x) → ((x : X) → Has xs x → P x) ⊎ ((x : X) × Has xs x × Q x)
all_or_some P Q [] each = inl (λ x h. absurd h)
all_or_some P Q (y ∷ xs) each =
    ⊎_elim
    (λ p. ⊎_elim
    (λ all. inl (λ x h. ⊎_elim (λ e. subst P e p) (all x) h))
    (λ s. inr (s.0, inr s.1, s.2))
    (all_or_some P Q xs (λ x h. each x (inr h))))
    (λ s. inr (y, inl refl, s))
    (each y (inl refl))

-- the numbers below n
abbrev pub numbers : ℕ → List ℕ
numbers zero = []
numbers (suc n) = n ∷ numbers n

pub has_numbers : (n k : ℕ) → k < n → Has (numbers n) k
has_numbers zero k lt = absurd (omega arith)
has_numbers (suc n) k lt = ⊎_elim (λ e. inl (sym e)) (λ ne. inr (has_numbers n k (omega (arith, ne)))) (cases_eq k n)

pub numbers_below : (n k : ℕ) → Has (numbers n) k → k < n
numbers_below zero k h = absurd h
numbers_below (suc n) k h = ⊎_elim (λ e. let same : n ≡ k = e in omega arith) (λ l. let below = numbers_below n k l in omega arith) h

-- ---- pairs

-- the pair of the next sets
abbrev pub next_pair : SetPair → Atom → ℕ → SetPair
next_pair p atom a = record { left = set_next p.left atom a; right = set_next p.right atom a }

-- whether two pairs have the same sets
abbrev pub same_sets : List Term → List Term → Bool
same_sets es fs = holds_all es fs && holds_all fs es

abbrev pub same_pair : SetPair → SetPair → Bool
same_pair p s = same_sets p.left s.left && same_sets p.right s.right

same_sets-true : (es fs : List Term) → same_sets es fs ≡ true → SameMembers es fs
same_sets-true es fs h x =
    let both = and_parts (holds_all es fs) (holds_all fs es) h in
    (holds_all-true fs es both.1 x, holds_all-true es fs both.0 x)

same-same_sets : (es fs : List Term) → SameMembers es fs → same_sets es fs ≡ true
same-same_sets es fs same =
    and_from (holds_all es fs) _ (subset-holds_all es fs (λ x h. (same x).1 h)) (subset-holds_all fs es (λ x h. (same x).0 h))

pub same_pair-true : (p s : SetPair) → same_pair p s ≡ true → SameMembers p.left s.left × SameMembers p.right s.right
same_pair-true p s h =
    let both = and_parts (same_sets p.left s.left) _ h in
    (same_sets-true p.left s.left both.0, same_sets-true p.right s.right both.1)

pub same-same_pair : (p s : SetPair) → SameMembers p.left s.left → SameMembers p.right s.right → same_pair p s ≡ true
same-same_pair p s lefts rights = and_from (same_sets p.left s.left) _ (same-same_sets p.left s.left lefts) (same-same_sets p.right s.right rights)

listed_or_not : (ps : List SetPair) (p : SetPair) → IsListed ps p.left p.right ⊎ (IsListed ps p.left p.right → ⊥)
listed_or_not ps p = go (list_any (same_pair p) ps) refl
  where
    go : (b : Bool) → list_any (same_pair p) ps ≡ b → IsListed ps p.left p.right ⊎ (IsListed ps p.left p.right → ⊥)
    go true e =
        let s = has_any (same_pair p) ps e in
        let same = same_pair-true p s.0 s.2 in
        inl (record { pair = s.0; listed = s.1; lefts = same.0; rights = same.1 })
    go false e = inr (λ l. true≢false (sym (any_has (same_pair p) ps l.pair l.listed (same-same_pair p l.pair l.lefts l.rights)) ∙ e))

module _ (tests actions : ℕ) where
  -- the sets of the pair accept the same strings
  abbrev pub IsAlike : SetPair → Type 0
  IsAlike p = (atom : Atom) (ms : List Move) → length atom ≡ tests → AreMoves tests actions ms → set_accepts p.left atom ms ≡ set_accepts p.right atom ms

  alike_next : (p : SetPair) (atom : Atom) (a : ℕ) → length atom ≡ tests → a < actions → IsAlike p → IsAlike (next_pair p atom a)
  alike_next p atom a wide lt alike after ms too are =
      let m : Move = record { act = a; atom = after } in
      sym (set_accepts-cons p.left atom m ms)
      ∙ alike atom (m ∷ ms) wide (λ n h. ⊎_elim (λ e. subst (λ k. (k.act < actions) × (length k.atom ≡ tests)) e (lt, too)) (are n) h)
      ∙ set_accepts-cons p.right atom m ms

  -- steps do not leave the list
  abbrev pub IsClosed : List SetPair → Type 0
  IsClosed ps = (p : SetPair) → Has ps p → (atom : Atom) → length atom ≡ tests → (a : ℕ) → a < actions → IsListed ps (next_pair p atom a).left (next_pair p atom a).right

  -- a step that leaves the list
  record LeavesList (ps : List SetPair) : Type 0 where
    from : SetPair
    listed : Has ps from
    atom : Atom
    wide : length atom ≡ tests
    act : ℕ
    within : act < actions
    unlisted : IsListed ps (next_pair from atom act).left (next_pair from atom act).right → ⊥

  closed_or_leaves : (ps : List SetPair) → IsClosed ps ⊎ LeavesList ps
  closed_or_leaves ps =
      ⊎_elim
      (λ all. inl (λ p h atom wide a lt. all p h atom (subst (λ n. Has (all_bits n) atom) wide (all_bits_has atom)) a (has_numbers actions a lt)))
      (λ s. inr s.2)
      (all_or_some
      (λ p. (atom : Atom) → Has (all_bits tests) atom → (a : ℕ) → Has (numbers actions) a → IsListed ps (next_pair p atom a).left (next_pair p atom a).right)
      (λ p. LeavesList ps) ps (λ p h.
      ⊎_elim inl (λ s. inr s.2)
      (all_or_some
      (λ atom. (a : ℕ) → Has (numbers actions) a → IsListed ps (next_pair p atom a).left (next_pair p atom a).right)
      (λ atom. LeavesList ps) (all_bits tests) (λ atom k.
      ⊎_elim inl (λ s. inr s.2)
      (all_or_some
      (λ a. IsListed ps (next_pair p atom a).left (next_pair p atom a).right)
      (λ a. LeavesList ps) (numbers actions) (λ a n.
      ⊎_elim inl
      (λ none. inr (record { from = p; listed = h; atom = atom; wide = all_bits_length tests atom k; act = a; within = numbers_below actions a n; unlisted = none }))
      (listed_or_not ps (next_pair p atom a))))))))

  module _ (l r : Term) where
    -- different pairs that strings lead to, the first among them, whose sets accept alike
    pub record AreFound (ps : List SetPair) : Type 0 where
      pub first : Has ps (start_pair l r)
      pub differ : AllDiffer ps
      pub reached : AreReached l r ps
      pub alike : (p : SetPair) → Has ps p → IsAlike p

    found_first : IsAlike (start_pair l r) → AreFound (start_pair l r ∷ [])
    found_first alike = record {
      first = inl refl;
      differ = ((λ listed. listed.listed), tt);
      reached = λ p h. ⊎_elim (λ e. subst (λ s. IsSubset s.left (l ∷ reach l) × IsSubset s.right (r ∷ reach r)) e ((λ x k. ⊎_elim inl (λ n. absurd n) k), (λ x k. ⊎_elim inl (λ n. absurd n) k))) (λ n. absurd n) h;
      alike = λ p h. ⊎_elim (λ e. subst IsAlike e alike) (λ n. absurd n) h;
    }

    found_next : (ps : List SetPair) (s : LeavesList ps) → AreFound ps → AreFound (next_pair s.from s.atom s.act ∷ ps)
    found_next ps s f =
        let next = next_pair s.from s.atom s.act in
        let own = f.reached s.from s.listed in
        let within : IsSubset next.left (l ∷ reach l) × IsSubset next.right (r ∷ reach r) = (
          next_within l s.from.left next.left s.atom s.act (λ x. ((λ h. h), (λ h. h))) own.0,
          next_within r s.from.right next.right s.atom s.act (λ x. ((λ h. h), (λ h. h))) own.1,
        ) in
        record {
          first = inr f.first;
          differ = (s.unlisted, f.differ);
          reached = λ p h. ⊎_elim (λ e. subst (λ t. IsSubset t.left (l ∷ reach l) × IsSubset t.right (r ∷ reach r)) e within) (f.reached p) h;
          alike = λ p h. ⊎_elim (λ e. subst IsAlike e (alike_next s.from s.atom s.act s.wide s.within (f.alike s.from s.listed))) (f.alike p) h;
        }

    abbrev bound : ℕ
    bound = 2 ^ (acts l + 1) * 2 ^ (acts r + 1)

    -- as long as a step leaves the list, its pair is added; there are only finitely many pairs
    closed_from : (fuel : ℕ) (ps : List SetPair) → AreFound ps → bound ≤ length ps + fuel → (all : List SetPair) × AreFound all × IsClosed all
    closed_from zero ps f le =
        ⊎_elim (λ closed. (ps, f, closed))
        (λ s.
        let more = found_next ps s f in
        let few : length (next_pair s.from s.atom s.act ∷ ps) ≤ bound = pairs_bound l r (next_pair s.from s.atom s.act ∷ ps) more.differ more.reached in
        absurd (omega (arith, few, le)))
        (closed_or_leaves ps)
    closed_from (suc fuel) ps f le =
        ⊎_elim (λ closed. (ps, f, closed))
        (λ s. closed_from fuel (next_pair s.from s.atom s.act ∷ ps) (found_next ps s f) (omega (arith, le)))
        (closed_or_leaves ps)

    pub reached_pairs : IsAlike (start_pair l r) → (all : List SetPair) × AreFound all × IsClosed all
    reached_pairs alike = closed_from bound (start_pair l r ∷ []) (found_first alike) (omega arith)
