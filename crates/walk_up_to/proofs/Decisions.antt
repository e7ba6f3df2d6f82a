-- The evidence at the end of a walk decides the problem.
use Rattle.std.proofs.Common.{◌≡◌, ◌<◌, ⊎_elim, ℕ, zero, suc, List, [], ◌∷◌, ◌++◌, length, map, slice_get, Option, Some, None, Result, Ok, Err, OnOk, refl, sym, ap, ◌∙◌, subst, arith}
use Rattle.std.specs.Option.{option_map, option_to_list}
use Rattle.std.proofs.lemmas.List.{length-map}
use Rattle.std.proofs.lemmas.Option.{slice_get-map, slice_get_within, same_Some}
use Rattle.kat_model.specs.Trees.{Term}
use Rattle.kat_model.specs.Members.{Has}
use Rattle.kat_model.specs.Strings.{GuardedString}
use Rattle.kat_model.specs.Steps.{Atom}
use Rattle.kat_model.specs.Problems.{ProblemParts, IsProblem, IsInRange}
use Rattle.kat_model.specs.Relations.{Same}
use Rattle.kat_model.specs.Pairs.{SetPair}
use Rattle.kat_model.specs.TestedPairs.{sets_of}
use Rattle.kat_model.proofs.Lists.{has_append, has_flat_map, has_map, map_has}
use Rattle.string_tables.proofs.Counterexamples.{refuted_not_same}
use Rattle.certificate.specs.declared.evidence.Evidence.TheVariants.{Equal, Different}
use Rattle.certificate.specs.Certs.{CertParts}
use Rattle.term_nodes.specs.NodeLists.{NodeParts}
use Rattle.term_nodes.specs.NodeTrees.{tree_at, HasTree}
use Rattle.term_nodes.specs.Growth.{Grows}
use Rattle.certificate.specs.PairParts.{PairParts}
use Rattle.certificate.specs.Accepted.{set_pairs, tested_pair_of}
use Rattle.certificate.specs.declared.nodes.Style.TheVariants.{UpTo}
use Rattle.walk_up_to.specs.Decisions.{IsWithinLimit, IsDecisionUpTo}
use Rattle.walk_up_to.specs.StoredSides.{HasSides}
use Rattle.walk_up_to.specs.Walks.{StepOrigin, Entry, pairs_of, IsWalk, IsTrail, after_trail}
use Rattle.walk_up_to.specs.Listings.{IdEntry, entry_of, entries_of, ComesEarlier, AreTraced, origin_in, LeadsBack, untested_of}
use Rattle.walk_pairs.specs.StoredPairs.{IsStoredPair, AreStoredPairs}
use Rattle.walk_pairs.specs.Numbering.{ArePairsWithin, IsCertOf}
use Rattle.walk_pairs.proofs.CertSets.{set_pairs_are}
use Rattle.walk_up_to.specs.Working.Walking.{IsUnderWay, IsDifference}
use Rattle.walk_up_to.specs.declared.worklist.Worklist.{Worklist}
use Rattle.walk_up_to.proofs.WalkSteps.{first_entry}
use Rattle.walk_up_to.proofs.ReachedRanges.{left_in_range, right_in_range}
use Rattle.walk_up_to.proofs.Endings.{walk_same}
use Rattle.walk_up_to.proofs.Concise.{walk_concise}
use Rattle.walk_up_to.proofs.Shortest.{found_shortest}
use Rattle.walk_up_to.proofs.Trails.{trail_of}

-- the entry of a listed pair
entry_at : (store : NodeParts) (es : List IdEntry) (k : ℕ) (e : IdEntry) → slice_get es k ≡ Some e → slice_get (entries_of store es) k ≡ Some (entry_of store e)
entry_at store es k e at = slice_get-map (entry_of store) es k ∙ ap (option_map (entry_of store)) at

-- the steps that lead back to the first pair are a trail
trail_back : (store : NodeParts) (es : List IdEntry) (k : ℕ) (os : List StepOrigin) → LeadsBack es k os → IsTrail (entries_of store es) k os
trail_back store es k [] h = h
trail_back store es k (o ∷ os) h = (here (slice_get es k) refl h.0, trail_back store es o.place os h.1)
  where
    here : (r : Option IdEntry) → slice_get es k ≡ r → origin_in r ≡ Some o → (e : Entry) × (slice_get (entries_of store es) k ≡ Some e) × (e.origin ≡ Some o)
    here None at f = absurd cc
    here (Some e) at f = (entry_of store e, entry_at store es k e at, f)

module _ (q : ProblemParts) (store : NodeParts) where
  -- the sets of listed pairs, as pairs without tests
  untested_sets : (es : List IdEntry) → sets_of (map (tested_pair_of store) (map untested_of es)) ≡ pairs_of (entries_of store es)
  untested_sets [] = refl
  untested_sets (e ∷ es) = ap (λ (l : List SetPair). (entry_of store e).pair ∷ l) (untested_sets es)

  module _ (es : List IdEntry) (done : ℕ) (walk : IsWalk q (entries_of store es) done) where
    walk_traced : AreTraced es
    walk_traced zero e at =
        let same : entry_of store e ≡ first_entry q = same_Some (entry_of store e) (first_entry q) (sym (entry_at store es 0 e at) ∙ walk.first) in
        subst (ComesEarlier 0) (sym (ap (λ (x : Entry). x.origin) same)) refl
    walk_traced (suc k) e at =
        let c = walk.origins k (entry_of store e) (entry_at store es (suc k) e at) in
        subst (ComesEarlier (suc k)) (sym c.is) (let l = c.earlier in omega (arith, l))

    entry_in_range : IsProblem q → (i : ℕ) (e : IdEntry) → Has es e → Has (e.left ++ e.right) i → IsInRange q.tests q.actions (tree_at store i)
    entry_in_range problem i e member h =
        let listed = map_has (entry_of store) es e member in
        ⊎_elim
        (λ l. left_in_range q problem (entries_of store es) done walk (entry_of store e) listed (tree_at store i) (map_has (tree_at store) e.left i l))
        (λ m. right_in_range q problem (entries_of store es) done walk (entry_of store e) listed (tree_at store i) (map_has (tree_at store) e.right i m))
        (has_append e.left e.right i h)

    pairs_within : IsProblem q → ArePairsWithin store q.tests q.actions (map untested_of es)
    pairs_within problem = record {
      terms = λ i h.
          let r = has_flat_map (λ (p : PairParts). p.left ++ p.right) (map untested_of es) i h in
          let e = has_map untested_of es r.0 r.1 in
          entry_in_range problem i e.0 e.1 (subst (λ (p : PairParts). Has (p.left ++ p.right) i) (sym e.2) r.2);
      guards = λ i h.
          let r = has_flat_map (λ (p : PairParts). option_to_list p.test) (map untested_of es) i h in
          let e = has_map untested_of es r.0 r.1 in
          absurd (subst (λ (p : PairParts). Has (option_to_list p.test) i) (sym e.2) r.2);
    }

  module _ (w : Worklist) where
    pub traced : (done : ℕ) → IsUnderWay q store w done → AreTraced w.listed.pairs
    traced done way = walk_traced w.listed.pairs done way.listed.walk

    -- the listed pairs are pairs of a certificate without tests
    pub stored : (done : ℕ) → IsUnderWay q store w done → AreStoredPairs store UpTo q.tests (map untested_of w.listed.pairs)
    stored done way p h =
        let e = has_map untested_of w.listed.pairs p h in
        let sets = way.listed.sets e.0 e.1 in
        subst (IsStoredPair store UpTo q.tests) e.2 (record { left = sets.0; right = sets.1; test = refl })

    -- if all pairs are processed, their certificate decides the problem
    pub certified : (c : CertParts) (limit : Option ℕ) → w.listed.limit ≡ limit → IsProblem q → IsUnderWay q store w (length w.listed.pairs) → IsCertOf store UpTo (map untested_of w.listed.pairs) c → IsDecisionUpTo q limit (Equal c)
    certified c limit same problem way cert =
        let es = entries_of store w.listed.pairs in
        let whole : IsWalk q es (length es) = subst (IsWalk q es) (sym (length-map w.listed.pairs (entry_of store))) way.listed.walk in
        let within = pairs_within w.listed.pairs (length w.listed.pairs) way.listed.walk problem in
        let sets : set_pairs c ≡ pairs_of es = set_pairs_are c ∙ ap sets_of cert.pairs ∙ untested_sets w.listed.pairs in
        let count : length (set_pairs c) ≡ length w.listed.pairs = ap length sets ∙ length-map es (λ (x : Entry). x.pair) ∙ length-map w.listed.pairs (entry_of store) in (
          walk_same q es (length es) whole (omega arith),
          walk_concise q es c whole cert.style_is sets (cert.tests_in_range q.tests q.actions within) (cert.actions_in_range q.tests q.actions within),
          subst (λ n. IsWithinLimit limit n) (sym count) (subst (λ o. IsWithinLimit o (length w.listed.pairs)) same way.listed.few),
        )

    -- if all pairs are processed, both sides are the same
    pub ended_same : IsUnderWay q store w (length w.listed.pairs) → Same q
    ended_same way = walk_same q (entries_of store w.listed.pairs) (length w.listed.pairs) way.listed.walk (let count = length-map w.listed.pairs (entry_of store) in omega (arith, count))

    -- if a difference is found, the string that leads to it decides the problem
    module _ (place : ℕ) (atom : Atom) (way : IsUnderWay q store w place) (d : IsDifference q store w place atom) where
      pub difference_within : place < length w.listed.pairs
      difference_within = subst (λ n. place < n) (length-map w.listed.pairs (entry_of store)) (slice_get_within (entries_of store w.listed.pairs) place d.entry d.at)

      pub refuted : (ps : List IdEntry) (x : GuardedString) → ps ≡ w.listed.pairs → ((trail : List StepOrigin) × LeadsBack ps place trail × (x ≡ after_trail trail (record { first = atom; rest = [] }))) → (limit : Option ℕ) → IsDecisionUpTo q limit (Different x)
      refuted ps x same leads limit =
          let es = entries_of store w.listed.pairs in
          let spelled = after_trail leads.0 (record { first = atom; rest = [] }) in
          let trail = trail_back store w.listed.pairs place leads.0 (subst (λ l. LeadsBack l place leads.0) same leads.1) in
          let shortest = found_shortest q es place way.listed.walk d.entry d.at atom d.fits d.differ leads.0 trail in
          subst (λ y. IsDecisionUpTo q limit (Different y)) (sym leads.2) (refuted_not_same q spelled shortest.refutes, shortest)

      -- the steps of some trail lead to the difference, so a string refutes the problem
      pub ended_apart : Same q → ⊥
      ended_apart =
          let es = entries_of store w.listed.pairs in
          let trail = trail_of q es place way.listed.walk place (slice_get_within es place d.entry d.at) in
          let shortest = found_shortest q es place way.listed.walk d.entry d.at atom d.fits d.differ trail.0 trail.1 in
          refuted_not_same q (after_trail trail.0 (record { first = atom; rest = [] })) shortest.refutes

-- ---- when the store has ids of the closed sides

tree_later : (s t : NodeParts) (e : Term) → Grows s t → HasTree s e → HasTree t e
tree_later s t e grows h = (h.0, grows.term_numbers h.0 h.1, grows.trees h.0 h.1 ∙ h.2)

pub sides_later : (q : ProblemParts) (s t : NodeParts) → Grows s t → HasSides s q → HasSides t q
sides_later q s t grows sides = record { left = tree_later s t _ grows sides.left; right = tree_later s t _ grows sides.right }

pub on_ok : {T E P : Type 0} (r : Result T E) → P → OnOk r P
on_ok (Ok v) p = p
on_ok (Err e) p = tt
