-- If the closure of each of two sets of ids at an atom contains the other set, the sets of their terms are joined
-- there.
use Rattle.std.proofs.Common.{◌≡◌, ◌≤◌, inl, inr, ⊎_elim, ℕ, zero, suc, Bool, true, false, cond, List, [], ◌∷◌, ◌++◌, slice_get, Option, Some, refl, sym, ap, ◌∙◌, subst}
use Rattle.std.specs.Bool.{IsTrue}
use Rattle.std.specs.Option.{option_map}
use Rattle.kat_model.specs.Trees.{Term}
use Rattle.kat_model.specs.Members.{Has, IsSubset, SameMembers}
use Rattle.kat_model.specs.Steps.{Atom}
use Rattle.kat_model.specs.Problems.{ProblemParts}
use Rattle.kat_model.specs.Closed.{closed}
use Rattle.kat_model.specs.Pairs.{SetPair, sat, has_term, IsCongruent}
use Rattle.kat_model.proofs.Lists.{has_map, map_has}
use Rattle.kat_model.proofs.SameTrees.{holds-true, has-holds}
use Rattle.kat_model.proofs.Saturation.{sat_keeps}
use Rattle.kat_model.proofs.SaturationEnds.{sat_closed}
use Rattle.term_nodes.specs.NodeLists.{NodeParts}
use Rattle.term_nodes.specs.NodeTrees.{tree_at}
use Rattle.term_nodes.specs.NumberSets.{terms_of}
use Rattle.test_diagrams.specs.Functions.{DiagramsParts, value_of}
use Rattle.walk_pairs.specs.Covered.{HasUniversal, IsReached, IsBetween}
use Rattle.walk_pairs.proofs.Covered.{covered_congruent, congruent_same, listed_congruent}
use Rattle.walk_under.specs.TestedWalks.{TestedEntry, AreJoined}
use Rattle.walk_regions.specs.Entries.{EntryParts}
use Rattle.walk_regions.specs.Reaching.{AllHold, IsClosedUnder, BringsAt}
use Rattle.walk_under.specs.Working.IdEntries.{pair_of, entry_of, entries_of}

-- the pairs of the entries that were reached at the atom
abbrev pub pairs_true : List TestedEntry → Atom → List SetPair
pairs_true [] atom = []
pairs_true (e ∷ es) atom = cond (e.test atom) (e.pair ∷ pairs_true es atom) (pairs_true es atom)

pub has_pairs_true : (es : List TestedEntry) (atom : Atom) (p : SetPair) → Has (pairs_true es atom) p → (e : TestedEntry) × Has es e × (e.pair ≡ p) × IsTrue (e.test atom)
has_pairs_true [] atom p h = absurd h
has_pairs_true (e ∷ es) atom p h = go (e.test atom) refl (has_pairs_true es atom p) h
  where
    later : (f : TestedEntry) × Has es f × (f.pair ≡ p) × IsTrue (f.test atom) → (f : TestedEntry) × Has (e ∷ es) f × (f.pair ≡ p) × IsTrue (f.test atom)
    later r = (r.0, inr r.1, r.2, r.3)

    go : (b : Bool) → e.test atom ≡ b → (Has (pairs_true es atom) p → (f : TestedEntry) × Has es f × (f.pair ≡ p) × IsTrue (f.test atom)) → Has (cond b (e.pair ∷ pairs_true es atom) (pairs_true es atom)) p
        → (f : TestedEntry) × Has (e ∷ es) f × (f.pair ≡ p) × IsTrue (f.test atom)
    go true t rest m = ⊎_elim (λ s. (e, inl refl, s, t)) (λ r. later (rest r)) m
    go false t rest m = later (rest m)

pub pairs_true_has : (es : List TestedEntry) (atom : Atom) (e : TestedEntry) → Has es e → IsTrue (e.test atom) → Has (pairs_true es atom) e.pair
pairs_true_has [] atom e h t = absurd h
pairs_true_has (f ∷ es) atom e h t = ⊎_elim first (λ r. later (f.test atom) (pairs_true_has es atom e r t)) h
  where
    later : (b : Bool) → Has (pairs_true es atom) e.pair → Has (cond b (f.pair ∷ pairs_true es atom) (pairs_true es atom)) e.pair
    later true m = inr m
    later false m = m

    first : f ≡ e → Has (cond (f.test atom) (f.pair ∷ pairs_true es atom) (pairs_true es atom)) e.pair
    first s =
        let own : f.test atom ≡ true = ap (λ (x : TestedEntry). x.test atom) s ∙ t in
        subst (λ b. Has (cond b (f.pair ∷ pairs_true es atom) (pairs_true es atom)) e.pair) (sym own) (inl (ap (λ (x : TestedEntry). x.pair) s))

pub joined_by : (q : ProblemParts) (es : List TestedEntry) (level : ℕ) (atom : Atom) (lefts rights : List Term) → ((e : TestedEntry) → Has es e → e.level ≤ level) → IsCongruent (closed q).universal (pairs_true es atom) lefts rights → AreJoined q es level atom lefts rights
joined_by q es level atom lefts rights low c = record {
  pairs = pairs_true es atom;
  reached = λ p h. let r = has_pairs_true es atom p h in (r.0, r.1, r.2, r.3, low r.0 r.1);
  congruent = c;
}

-- whether sets are joined depends only on their members
pub joined_same : (q : ProblemParts) (es : List TestedEntry) (level : ℕ) (atom : Atom) (es₁ fs₁ es₂ fs₂ : List Term) → SameMembers es₁ es₂ → SameMembers fs₁ fs₂ → AreJoined q es level atom es₁ fs₁ → AreJoined q es level atom es₂ fs₂
joined_same q es level atom es₁ fs₁ es₂ fs₂ s t j = record {
  pairs = j.pairs;
  reached = j.reached;
  congruent = congruent_same (closed q).universal j.pairs es₁ fs₁ es₂ fs₂ s t j.congruent;
}

-- ---- ids and terms

module _ (q : ProblemParts) (store : NodeParts) (d : DiagramsParts) (es : List EntryParts) (universal : Option ℕ) (is_universal : option_map (tree_at store) universal ≡ (closed q).universal) (atom : Atom) where
  abbrev listed : List SetPair
  listed = pairs_true (entries_of store d es) atom

  module _ (set : List ℕ) where
    abbrev made : List Term
    made = sat listed (terms_of store set)

    -- whether the closure has the term of the id
    abbrev is_made : ℕ → Bool
    is_made i = has_term made (tree_at store i)

    all_made : (ids : List ℕ) → AllHold is_made ids → IsSubset (terms_of store ids) made
    all_made ids all x h = let f = has_map (tree_at store) ids x h in subst (Has made) f.2 (holds-true made (tree_at store f.0) (all f.0 f.1))

    made_all : (ids : List ℕ) → IsSubset (terms_of store ids) made → AllHold is_made ids
    made_all ids s i h = has-holds made (tree_at store i) (s (tree_at store i) (map_has (tree_at store) ids i h))

    made_closed : IsClosedUnder d es atom is_made
    made_closed e h t =
        let own = sat_closed listed (terms_of store set) (pair_of store e) (pairs_true_has (entries_of store d es) atom (entry_of store d e) (map_has (entry_of store d) es e h) t) in (
          (λ all. made_all e.right (own.0 (all_made e.left all))),
          (λ all. made_all e.left (own.1 (all_made e.right all))),
        )

    pub brought : (targets : List ℕ) → BringsAt d es universal set targets atom → IsReached (closed q).universal listed (terms_of store set) (terms_of store targets)
    brought targets b =
        ⊎_elim
        (λ all. inl (all_made targets all))
        (λ u. inr (subst (λ o. HasUniversal o made) (ap (option_map (tree_at store)) (sym u.1) ∙ is_universal) (holds-true made (tree_at store u.0) u.2)))
        (b is_made made_closed (made_all set (sat_keeps listed (terms_of store set))))

  itself_between : (xs ys : List Term) → IsBetween xs xs xs ys
  itself_between xs ys = record { has = λ x h. h; only = λ x h. inr h }

  -- sets are congruent if the closure of each contains the other
  pub brought_congruent : (left right : List ℕ) → BringsAt d es universal right left atom → BringsAt d es universal left right atom → IsCongruent (closed q).universal listed (terms_of store left) (terms_of store right)
  brought_congruent left right lefts rights =
      let l = terms_of store left in
      let r = terms_of store right in
      covered_congruent (closed q).universal listed l r l r l r (itself_between l r) (itself_between r l) (record { lefts = brought right left lefts; rights = brought left right rights })

  -- the sets of an entry that was reached at the atom are congruent
  pub entry_congruent : (e : EntryParts) → Has es e → IsTrue (value_of d e.test atom) → IsCongruent (closed q).universal listed (terms_of store e.left) (terms_of store e.right)
  entry_congruent e h t =
      listed_congruent (closed q).universal listed (pair_of store e) (terms_of store e.left) (terms_of store e.right) (pairs_true_has (entries_of store d es) atom (entry_of store d e) (map_has (entry_of store d) es e h) t) (λ x. ((λ m. m), (λ m. m))) (λ x. ((λ m. m), (λ m. m)))

-- ---- lists of entries

pub entries-append : (store : NodeParts) (d : DiagramsParts) (es fs : List EntryParts) → entries_of store d (es ++ fs) ≡ entries_of store d es ++ entries_of store d fs
entries-append store d [] fs = refl
entries-append store d (e ∷ es) fs = ap (λ xs. entry_of store d e ∷ xs) (entries-append store d es fs)

pub entry_at : (store : NodeParts) (d : DiagramsParts) (es : List EntryParts) (k : ℕ) (e : EntryParts) → slice_get es k ≡ Some e → slice_get (entries_of store d es) k ≡ Some (entry_of store d e)
entry_at store d [] k e at = absurd cc
entry_at store d (f ∷ es) zero e at = let same : f ≡ e = cc in ap (λ x. Some (entry_of store d x)) same
entry_at store d (f ∷ es) (suc k) e at = entry_at store d es k e at
