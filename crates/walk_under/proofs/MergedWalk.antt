-- The merged pairs of an ended walk: they have the sets of its entries, differ, and are reached along allowed moves.
use Rattle.std.proofs.Common.{◌≡◌, ◌≤◌, inl, inr, ⊎_elim, ℕ, zero, suc, List, [], ◌∷◌, ◌++◌, length, map, slice_get, Option, Some, refl, sym, ap, ◌∙◌, subst, arith}
use Rattle.std.specs.Bool.{IsTrue}
use Rattle.std.proofs.lemmas.List.{map-append}
use Rattle.std.proofs.lemmas.Option.{same_Some}
use Rattle.kat_model.specs.Members.{Has, SameMembers}
use Rattle.kat_model.specs.Steps.{Atom, truth, set_next}
use Rattle.kat_model.specs.Pairs.{SetPair, IsListed, AllDiffer}
use Rattle.kat_model.specs.TestedPairs.{TestedPair, sets_of}
use Rattle.kat_model.proofs.Lists.{has_left, has_right, has_append, has_map, map_has}
use Rattle.kat_model.proofs.Places.{has_at}
use Rattle.term_nodes.specs.NodeLists.{NodeParts, AreNodes}
use Rattle.term_nodes.specs.NodeTrees.{test_tree_at}
use Rattle.term_nodes.specs.NumberSets.{terms_of}
use Rattle.term_nodes.specs.Growth.{Grows}
use Rattle.test_diagrams.specs.Functions.{DiagramsParts, IsAtomOf}
use Rattle.test_diagrams.proofs.Kept.{KeepsFunctions-itself}
use Rattle.partial_derivs.specs.Moves.{Keeps}
use Rattle.certificate.specs.PairParts.{PairParts}
use Rattle.certificate.specs.Accepted.{test_of, tested_pair_of}
use Rattle.certificate.specs.UnderTests.{IsReachedPair, AreReachedPairs, AreAllReached}
use Rattle.walk_pairs.specs.IdSets.{IsIdSet}
use Rattle.walk_pairs.proofs.PlaceNumbers.{mapped_at, at_mapped}
use Rattle.walk_under.specs.TestedWalks.{TestedEntry, closed_sides, IsListedAt}
use Rattle.walk_under.specs.MergedPairs.{AreMergedPairs}
use Rattle.walk_regions.specs.Entries.{EntryParts}
use Rattle.walk_regions.specs.Listings.{IsLevelAtom}
use Rattle.walk_under.specs.Working.IdEntries.{pair_of, entry_of, entries_of}
use Rattle.walk_under.specs.Working.Walking.{WalkContext, IsUnderWay}
use Rattle.walk_regions.specs.Merging.{IsReachedThere, HasPairOf, IsFirst, AreFirst, AreMergedIds}
use Rattle.walk_under.specs.declared.walk.TestedWorklist.{TestedWorklist}
use Rattle.walk_under.proofs.WalkSteps.{first_entry}
use Rattle.walk_under.proofs.Standing.{one_id_set, same_ids, level_atom}
use Rattle.walk_under.proofs.Taking.{terms_kept, set_kept}
use Rattle.walk_regions.proofs.MergedIds.{has_pair_more}

-- ---- the first pair

-- the first pair has the sets of the first entry
pub record StartsWith (es : List EntryParts) (ps : List PairParts) : Type 0 where
  pub entry : EntryParts
  pub at : slice_get es 0 ≡ Some entry
  pub pair : PairParts
  pub rest : List PairParts
  pub is : ps ≡ pair ∷ rest
  pub left_is : entry.left ≡ pair.left
  pub right_is : entry.right ≡ pair.right

none_there : (e : EntryParts) → HasPairOf [] e → ⊥
none_there e h = absurd h.member

starts_with : (es : List EntryParts) (ps : List PairParts) (e : EntryParts) → slice_get es 0 ≡ Some e → AreFirst es [] ps → HasPairOf ps e → StartsWith es ps
starts_with es [] e at firsts h = absurd h.member
starts_with es (p ∷ ps) e at firsts h = go firsts.0.place refl
  where
    go : (k : ℕ) → firsts.0.place ≡ k → StartsWith es (p ∷ ps)
    go zero z =
        let same : e ≡ firsts.0.entry = same_Some e firsts.0.entry (sym at ∙ subst (λ n. slice_get es n ≡ Some firsts.0.entry) z firsts.0.at) in
        record { entry = e; at = at; pair = p; rest = ps; is = refl; left_is = ap (λ (x : EntryParts). x.left) same ∙ firsts.0.left_is; right_is = ap (λ (x : EntryParts). x.right) same ∙ firsts.0.right_is }
    go (suc k) z = absurd (none_there e (firsts.0.earlier 0 e (omega (arith, z)) at))

-- each pair has the sets of an entry
pub of_entry : (es : List EntryParts) (before ps : List PairParts) → AreFirst es before ps → (p : PairParts) → Has ps p → (e : EntryParts) × Has es e × (e.left ≡ p.left) × (e.right ≡ p.right)
of_entry es before [] firsts p h = absurd h
of_entry es before (q ∷ ps) firsts p h =
    ⊎_elim
    (λ s.
    let f = firsts.0 in
    (f.entry, has_at es f.place f.entry f.at, subst (λ (x : PairParts). f.entry.left ≡ x.left) s f.left_is, subst (λ (x : PairParts). f.entry.right ≡ x.right) s f.right_is))
    (of_entry es (before ++ q ∷ []) ps firsts.1 p)
    h

-- a later pair has other ids than an earlier one
later_differs : (es : List EntryParts) (before ps : List PairParts) → AreFirst es before ps → (r p : PairParts) → Has before r → Has ps p → r.left ≡ p.left → r.right ≡ p.right → ⊥
later_differs es before [] firsts r p m h l s = absurd h
later_differs es before (q ∷ ps) firsts r p m h l s =
    ⊎_elim
    (λ same.
    let f = firsts.0 in
    f.fresh (record {
      pair = r;
      member = m;
      left_is = f.left_is ∙ ap (λ (x : PairParts). x.left) same ∙ sym l;
      right_is = f.right_is ∙ ap (λ (x : PairParts). x.right) same ∙ sym s;
    }))
    (λ k. later_differs es (before ++ q ∷ []) ps firsts.1 r p (has_left before (q ∷ []) r m) k l s)
    h

-- ---- the pairs of a walk

module _ (s : WalkContext) (t : NodeParts) (grows : Grows s.store t) (sound : AreNodes t) (w : TestedWorklist) (done : ℕ) (u : IsUnderWay s w done) where
  abbrev pub d : DiagramsParts
  d = w.diagrams

  abbrev pub ids : List EntryParts
  ids = w.listing.entries.items

  abbrev pub es_of : List TestedEntry
  es_of = entries_of s.store d ids

  abbrev pub tested : PairParts → TestedPair
  tested p = tested_pair_of t p

  keeps : Keeps s.store t d d
  keeps = record { trees = grows; functions = KeepsFunctions-itself d }

  fits_of : (atom : Atom) → length atom ≡ s.problem.tests → IsAtomOf d atom
  fits_of atom wide = wide ∙ sym u.tests

  -- a pair with the ids of an entry has the sets of the entry
  pair_sets : (e : EntryParts) (p : PairParts) → Has ids e → e.left ≡ p.left → e.right ≡ p.right → (tested p).sets ≡ pair_of s.store e
  pair_sets e p h l r = λ i. record { left = lefts i; right = rights i }
    where
      lefts : terms_of t p.left ≡ terms_of s.store e.left
      lefts = ap (terms_of t) (sym l) ∙ terms_kept s.store t d d keeps e.left (u.entries e h).left

      rights : terms_of t p.right ≡ terms_of s.store e.right
      rights = ap (terms_of t) (sym r) ∙ terms_kept s.store t d d keeps e.right (u.entries e h).right

  module _ (ps : List PairParts) (m : AreMergedIds t d ids ps) where
    -- the test of a pair has the truth of the tree of its id
    pair_truth : (p : PairParts) (h : Has ps p) (atom : Atom) → truth (tested p).test atom ≡ truth (test_tree_at t (m.each p h).test) atom
    pair_truth p h atom = ap (λ (o : Option ℕ). truth (test_of t o) atom) (m.each p h).has_test

    holds_at : (p : PairParts) → Has ps p → (atom : Atom) → length atom ≡ s.problem.tests → IsReachedThere d ids p.left p.right atom → IsTrue (truth (tested p).test atom)
    holds_at p h atom wide r = pair_truth p h atom ∙ (m.each p h).back atom (fits_of atom wide) r

    starts : StartsWith ids ps
    starts =
        let f = mapped_at (entry_of s.store d) ids 0 (first_entry s.problem u.walk.start) u.walk.first in
        starts_with ids ps f.0 f.1 m.firsts (m.covers f.0 (has_at ids 0 f.0 f.1))

    start_sets : (tested starts.pair).sets ≡ closed_sides s.problem
    start_sets =
        let same : entry_of s.store d starts.entry ≡ first_entry s.problem u.walk.start =
        same_Some (entry_of s.store d starts.entry) (first_entry s.problem u.walk.start) (sym (at_mapped (entry_of s.store d) ids 0 starts.entry starts.at) ∙ u.walk.first) in
        pair_sets starts.entry starts.pair (has_at ids 0 starts.entry starts.at) starts.left_is starts.right_is ∙ ap (λ (x : TestedEntry). x.pair) same

    start_member : Has ps starts.pair
    start_member = subst (λ (l : List PairParts). Has l starts.pair) (sym starts.is) (inl refl)

    pub merged : AreMergedPairs s.problem es_of (map tested ps)
    merged = record {
      test = (tested starts.pair).test;
      rest = map tested starts.rest;
      first = ap (map tested) starts.is ∙ ap (λ (x : SetPair). record { sets = x; test = (tested starts.pair).test } ∷ map tested starts.rest) start_sets;
      whole = λ e h same atom wide holds.
          let f = has_map (entry_of s.store d) ids e h in
          let first_member = has_at ids 0 starts.entry starts.at in
          let sets : pair_of s.store f.0 ≡ pair_of s.store starts.entry =
          ap (λ (x : TestedEntry). x.pair) f.2 ∙ same ∙ sym start_sets ∙ pair_sets starts.entry starts.pair first_member starts.left_is starts.right_is in
          let i = same_ids s w done u f.0 starts.entry f.1 first_member sets in
          holds_at starts.pair start_member atom wide
          (record { entry = f.0; member = f.1; left_is = i.0 ∙ starts.left_is; right_is = i.1 ∙ starts.right_is; holds = ap (λ (x : TestedEntry). x.test atom) f.2 ∙ holds });
      there = λ e h atom wide holds.
          let f = has_map (entry_of s.store d) ids e h in
          let c = m.covers f.0 f.1 in (
            tested c.pair,
            map_has tested ps c.pair c.member,
            pair_sets f.0 c.pair f.1 c.left_is c.right_is ∙ ap (λ (x : TestedEntry). x.pair) f.2,
            holds_at c.pair c.member atom wide (record { entry = f.0; member = f.1; left_is = c.left_is; right_is = c.right_is; holds = ap (λ (x : TestedEntry). x.test atom) f.2 ∙ holds }),
          );
      back = λ p h atom wide holds.
          let f = has_map tested ps p h in
          let r = (m.each f.0 f.1).there atom (fits_of atom wide) (sym (pair_truth f.0 f.1 atom) ∙ ap (λ (x : TestedPair). truth x.test atom) f.2 ∙ holds) in (
            entry_of s.store d r.entry,
            map_has (entry_of s.store d) ids r.entry r.member,
            sym (pair_sets r.entry f.0 r.member r.left_is r.right_is) ∙ ap (λ (x : TestedPair). x.sets) f.2,
            r.holds,
          );
    }

    -- ---- the pairs differ

    pub pair_set_ids : (p : PairParts) → Has ps p → IsIdSet t d.tests p.left × IsIdSet t d.tests p.right
    pair_set_ids p h =
        let e = of_entry ids [] ps m.firsts p h in
        let is = u.entries e.0 e.1 in (
          subst (IsIdSet t d.tests) e.2 (set_kept s.store t d d keeps e.0.left is.left),
          subst (IsIdSet t d.tests) e.3 (set_kept s.store t d d keeps e.0.right is.right),
        )

    differ_after : (before qs : List PairParts) → AreFirst ids before qs → ((p : PairParts) → Has qs p → Has ps p) → AllDiffer (sets_of (map tested qs))
    differ_after before [] firsts within = tt
    differ_after before (p ∷ qs) firsts within = (apart, differ_after (before ++ p ∷ []) qs firsts.1 (λ r h. within r (inr h)))
      where
        apart : IsListed (sets_of (map tested qs)) (tested p).sets.left (tested p).sets.right → ⊥
        apart l =
            let x = has_map (λ (y : TestedPair). y.sets) (map tested qs) l.pair l.listed in
            let r = has_map tested qs x.0 x.1 in
            let same : (tested r.0).sets ≡ l.pair = ap (λ (y : TestedPair). y.sets) r.2 ∙ x.2 in
            let own = pair_set_ids p (within p (inl refl)) in
            let other = pair_set_ids r.0 (within r.0 (inr r.1)) in
            later_differs ids (before ++ p ∷ []) qs firsts.1 p r.0 (has_right before (p ∷ []) p (inl refl)) r.1
            (one_id_set t sound d.tests p.left r.0.left own.0 other.0 (subst (λ (y : SetPair). SameMembers (terms_of t p.left) y.left) (sym same) l.lefts))
            (one_id_set t sound d.tests p.right r.0.right own.1 other.1 (subst (λ (y : SetPair). SameMembers (terms_of t p.right) y.right) (sym same) l.rights))

    pub differ : AllDiffer (sets_of (map tested ps))
    differ = differ_after [] ps m.firsts (λ p h. h)

    -- ---- the pairs are reached

    module _ (before : List PairParts) (within : (p : PairParts) → Has before p → Has ps p) (p : PairParts) (member : Has ps p) (f : IsFirst ids before p) (start : HasPairOf before starts.entry) where
      -- a pair of an entry after the first is reached
      from_later : (k : ℕ) → slice_get ids (suc k) ≡ Some f.entry → ((j : ℕ) (e : EntryParts) → j ≤ k → slice_get ids j ≡ Some e → HasPairOf before e) → IsReachedPair s.shorts s.problem.tests s.problem.actions (map tested before) (tested p)
      from_later k at earlier =
          let own : Has ids f.entry = has_at ids (suc k) f.entry at in
          let o = u.walk.origins k (entry_of s.store d f.entry) (at_mapped (entry_of s.store d) ids (suc k) f.entry at) in
          let there = o.somewhere in
          let source = o.sources there.0 there.1 there.2 in
          let g = mapped_at (entry_of s.store d) ids o.origin.place o.from o.at in
          let c : HasPairOf before g.0 = earlier o.origin.place g.0 o.earlier g.1 in
          let from_sets : o.from.pair ≡ (tested c.pair).sets =
          sym (pair_sets g.0 c.pair (has_at ids o.origin.place g.0 g.1) c.left_is c.right_is ∙ ap (λ (x : TestedEntry). x.pair) g.2) in
          let listed : IsLevelAtom d ids g.0 source.before =
          level_atom s w done u g.0 (has_at ids o.origin.place g.0 g.1) source.before
          (subst (λ (x : TestedEntry). IsListedAt es_of x source.before) (sym g.2) (o.region.within source.before source.of_tests source.there)) in
          let to_sets : pair_of s.store f.entry ≡ (tested p).sets = sym (pair_sets f.entry p own f.left_is f.right_is) in
          record {
            from = tested c.pair;
            earlier = map_has tested before c.pair c.member;
            leads = record {
              atom = source.before;
              move = record { act = o.origin.act; atom = there.0 };
              of_tests = source.of_tests;
              to_tests = there.1;
              of_actions = o.of_actions;
              there = holds_at c.pair (within c.pair c.member) source.before source.of_tests
                  (record { entry = listed.entry; member = listed.member; left_is = listed.is.left ∙ c.left_is; right_is = listed.is.right ∙ c.right_is; holds = listed.holds });
              allowed = source.allowed;
              lefts = subst (λ (x : SetPair). SameMembers (set_next x.left source.before o.origin.act) (terms_of t p.left)) from_sets
                  (subst (λ (x : SetPair). SameMembers (set_next o.from.pair.left source.before o.origin.act) x.left) to_sets (o.region.lefts source.before source.of_tests source.there));
              rights = subst (λ (x : SetPair). SameMembers (set_next x.right source.before o.origin.act) (terms_of t p.right)) from_sets
                  (subst (λ (x : SetPair). SameMembers (set_next o.from.pair.right source.before o.origin.act) x.right) to_sets (o.region.rights source.before source.of_tests source.there));
            };
            somewhere = record {
              atom = there.0;
              of_tests = there.1;
              allowed = source.allowed.to;
              holds = holds_at p member there.0 there.1 (record { entry = f.entry; member = own; left_is = f.left_is; right_is = f.right_is; holds = there.2 });
            };
          }

      reached_one : IsReachedPair s.shorts s.problem.tests s.problem.actions (map tested before) (tested p)
      reached_one = go f.place refl
        where
          go : (k : ℕ) → f.place ≡ k → IsReachedPair s.shorts s.problem.tests s.problem.actions (map tested before) (tested p)
          go zero z =
              let same : starts.entry ≡ f.entry = same_Some starts.entry f.entry (sym starts.at ∙ subst (λ n. slice_get ids n ≡ Some f.entry) z f.at) in
              absurd (f.fresh (subst (HasPairOf before) same start))
          go (suc k) z = from_later k (subst (λ n. slice_get ids n ≡ Some f.entry) z f.at) (λ j e le at. f.earlier j e (omega (arith, le, z)) at)

    reached_after : (before qs : List PairParts) → ((p : PairParts) → Has before p → Has ps p) → ((p : PairParts) → Has qs p → Has ps p) → AreFirst ids before qs → HasPairOf before starts.entry
        → AreReachedPairs s.shorts s.problem.tests s.problem.actions (map tested before) (map tested qs)
    reached_after before [] old new firsts start = tt
    reached_after before (p ∷ qs) old new firsts start = (
      reached_one before old p (new p (inl refl)) firsts.0 start,
      subst (λ l. AreReachedPairs s.shorts s.problem.tests s.problem.actions l (map tested qs)) (map-append tested before (p ∷ []))
          (reached_after (before ++ p ∷ []) qs (λ r h. ⊎_elim (old r) (λ k. ⊎_elim (λ e. subst (Has ps) e (new p (inl refl))) (λ x. absurd x) k) (has_append before (p ∷ []) r h)) (λ r h. new r (inr h)) firsts.1 (has_pair_more before (p ∷ []) starts.entry start)),
    )

    pub reached : AreAllReached s.shorts s.problem.tests s.problem.actions (map tested ps)
    reached = subst (λ l. AreAllReached s.shorts s.problem.tests s.problem.actions (map tested l)) (sym starts.is) rest_reached
      where
        firsts : AreFirst ids [] (starts.pair ∷ starts.rest)
        firsts = subst (AreFirst ids []) starts.is m.firsts

        within : (p : PairParts) → Has (starts.pair ∷ starts.rest) p → Has ps p
        within p h = subst (λ (l : List PairParts). Has l p) (sym starts.is) h

        rest_reached : AreReachedPairs s.shorts s.problem.tests s.problem.actions (tested starts.pair ∷ []) (map tested starts.rest)
        rest_reached =
            reached_after (starts.pair ∷ []) starts.rest (λ p h. within p (⊎_elim inl (λ x. absurd x) h)) (λ p h. within p (inr h)) firsts.1
            (record { pair = starts.pair; member = inl refl; left_is = starts.left_is; right_is = starts.right_is })
