-- The certificate of the merged pairs of an ended walk decides the problem, and so does the string to a difference.
use Rattle.std.proofs.Common.{◌≡◌, ◌≤◌, ◌+◌, ◌*◌, ◌^◌, ⊎_elim, ℕ, List, [], ◌∷◌, ◌++◌, length, map, sym, ap, ◌∙◌, subst}
use Rattle.std.specs.Bool.{IsTrue}
use Rattle.std.specs.Option.{option_to_list}
use Rattle.std.proofs.lemmas.List.{length-map}
use Rattle.kat_model.specs.Trees.{Term, acts}
use Rattle.kat_model.specs.Members.{Has, IsSubset}
use Rattle.kat_model.specs.Problems.{ProblemParts, IsProblem, IsTestInRange, IsInRange}
use Rattle.kat_model.specs.Steps.{Atom, truth}
use Rattle.kat_model.specs.Strings.{GuardedString}
use Rattle.kat_model.specs.Closed.{closed_under, closed}
use Rattle.kat_model.specs.Guarded.{IsGuarded}
use Rattle.kat_model.specs.Pairs.{AllDiffer}
use Rattle.kat_model.specs.Degrees.{short_hyps, long_hyps, with_hyps}
use Rattle.kat_model.specs.TestedPairs.{TestedPair, sets_of, AreAcceptedUnder}
use Rattle.kat_model.proofs.Lists.{has_append, has_flat_map, map_has}
use Rattle.kat_model.proofs.Splits.{split_by_degree}
use Rattle.kat_model.proofs.Sameness.{accepted_under_same}
use Rattle.term_nodes.specs.NodeLists.{NodeParts, AreNodes}
use Rattle.term_nodes.specs.NodeTrees.{test_tree_at, tree_at}
use Rattle.term_nodes.specs.Growth.{Grows}
use Rattle.string_tables.proofs.Counterexamples.{refuted_not_same}
use Rattle.certificate.specs.declared.nodes.Style.TheVariants.{Under}
use Rattle.certificate.specs.declared.evidence.Evidence.TheVariants.{Equal, Different}
use Rattle.certificate.specs.PairParts.{PairParts}
use Rattle.certificate.specs.Certs.{CertParts}
use Rattle.certificate.specs.Accepted.{set_pairs, ShowsSame, IsAccepted}
use Rattle.certificate.specs.UnderTests.{AreReachedPairs, AreAllReached, IsConciseUnder}
use Rattle.certificate.specs.Decisions.{IsShortest}
use Rattle.goal_forms.proofs.LongProblems.{long_is_problem}
use Rattle.goal_forms.proofs.FewerHypotheses.{fewer_accepted}
use Rattle.walk_pairs.specs.Needed.{members_of, tests_of_pairs}
use Rattle.walk_pairs.specs.Numbering.{ArePairsWithin, IsCertOf}
use Rattle.walk_pairs.specs.StoredPairs.{AreStoredPairs}
use Rattle.walk_pairs.specs.ClosedTerms.{AreIdsOf}
use Rattle.walk_pairs.specs.declared.closed.ClosedIds.{ClosedIds}
use Rattle.walk_pairs.proofs.ClosedTerms.{ids_kept, left_term, right_term}
use Rattle.walk_pairs.proofs.CertSets.{set_pairs_are}
use Rattle.walk_pairs.proofs.SideRanges.{sides_in_range, within_side}
use Rattle.walk_under.specs.TestedWalks.{TestedEntry, IsTestedWalk}
use Rattle.walk_under.specs.MergedPairs.{AreMergedPairs}
use Rattle.walk_under.specs.Decisions.{IsDecisionUnder}
use Rattle.walk_under.specs.Laws.{AreFewPairs}
use Rattle.walk_regions.specs.Entries.{EntryParts}
use Rattle.walk_under.specs.Working.IdEntries.{entry_of}
use Rattle.walk_under.specs.Working.Walking.{WalkContext, walk_context, IsUnderWay, AreClosedIds}
use Rattle.walk_regions.specs.Merging.{AreMergedIds}
use Rattle.walk_under.specs.declared.walk.TestedWorklist.{TestedWorklist}
use Rattle.walk_under.proofs.EndedWalks.{ended_accepted}
use Rattle.walk_under.proofs.Few.{entry_reached}
use Rattle.walk_under.proofs.FewMerged.{merged_few}
use Rattle.walk_under.proofs.MergedWalk.{es_of, tested, of_entry, pair_set_ids, merged, differ, reached}

-- the test of each reached pair is true at some atom
reached_somewhere : (shorts : List Term) (tests actions : ℕ) (before ps : List TestedPair) → AreReachedPairs shorts tests actions before ps → (p : TestedPair) → Has ps p → (atom : Atom) × (length atom ≡ tests) × IsTrue (truth p.test atom)
reached_somewhere shorts tests actions before [] r p h = absurd h
reached_somewhere shorts tests actions before (q ∷ ps) r p h =
    ⊎_elim
    (λ e. let s = r.0.somewhere in (s.atom, s.of_tests, subst (λ (x : TestedPair). IsTrue (truth x.test s.atom)) e s.holds))
    (reached_somewhere shorts tests actions _ ps r.1 p)
    h

module _ (whole : ProblemParts) (problem : IsProblem whole) (counted : List Term) (fewer : IsSubset counted (short_hyps whole)) (start t : NodeParts) (grows : Grows start t) (sound : AreNodes t) (w : TestedWorklist) where
  abbrev longs : ProblemParts
  longs = with_hyps whole (long_hyps whole)

  abbrev s : WalkContext
  s = walk_context counted longs start

  abbrev ids : List EntryParts
  ids = w.listing.entries.items

  module _ (u : IsUnderWay s w (length ids)) (ps : List PairParts) (m : AreMergedIds t w.diagrams ids ps) where
    abbrev es : List TestedEntry
    es = es_of s t grows sound w (length ids) u

    abbrev pairs : List TestedPair
    pairs = map (tested s t grows sound w (length ids) u) ps

    are_merged : AreMergedPairs longs es pairs
    are_merged = merged s t grows sound w (length ids) u ps m

    ended : IsTestedWalk counted longs es (length es)
    ended = subst (IsTestedWalk counted longs es) (sym (length-map ids (entry_of start w.diagrams))) u.walk

    accepted : AreAcceptedUnder counted longs pairs
    accepted = ended_accepted counted longs es ended pairs are_merged

    -- so they are accepted if all short hypotheses count
    all_accepted : AreAcceptedUnder (short_hyps whole) longs pairs
    all_accepted = fewer_accepted counted (short_hyps whole) fewer longs pairs accepted

    all_reached : AreAllReached counted whole.tests whole.actions pairs
    all_reached = reached s t grows sound w (length ids) u ps m

    all_differ : AllDiffer (sets_of pairs)
    all_differ = differ s t grows sound w (length ids) u ps m

    few : AreFewPairs longs pairs
    few = merged_few counted longs es (length es) ended pairs are_merged all_differ
        (λ p h. reached_somewhere counted whole.tests whole.actions _ are_merged.rest (subst (AreAllReached counted whole.tests whole.actions) are_merged.first all_reached) p h)

    pub stored : AreStoredPairs t Under w.diagrams.tests ps
    stored p h =
        let set = pair_set_ids s t grows sound w (length ids) u ps m p h in
        let own = m.each p h in
        record { left = set.0; right = set.1; test = (own.test, own.has_test, own.is_id) }

    -- the terms and tests of the pairs are in range
    within : ArePairsWithin t whole.tests whole.actions ps
    within = record { terms = terms; guards = guards }
      where
        left_range : (e : EntryParts) → Has ids e → (i : ℕ) → Has e.left i → IsInRange whole.tests whole.actions (tree_at t i)
        left_range e h i k =
            let r = entry_reached counted longs es (length es) ended (entry_of start w.diagrams e) (map_has (entry_of start w.diagrams) ids e h) in
            subst (IsInRange whole.tests whole.actions) (sym (grows.trees i ((u.entries e h).left.there i k).is_id))
            (within_side longs (closed longs).left (tree_at start i) (sides_in_range longs (long_is_problem whole problem)).0 (r.left (tree_at start i) (map_has (tree_at start) e.left i k)))

        right_range : (e : EntryParts) → Has ids e → (i : ℕ) → Has e.right i → IsInRange whole.tests whole.actions (tree_at t i)
        right_range e h i k =
            let r = entry_reached counted longs es (length es) ended (entry_of start w.diagrams e) (map_has (entry_of start w.diagrams) ids e h) in
            subst (IsInRange whole.tests whole.actions) (sym (grows.trees i ((u.entries e h).right.there i k).is_id))
            (within_side longs (closed longs).right (tree_at start i) (sides_in_range longs (long_is_problem whole problem)).1 (r.right (tree_at start i) (map_has (tree_at start) e.right i k)))

        terms : (i : ℕ) → Has (members_of ps) i → IsInRange whole.tests whole.actions (tree_at t i)
        terms i h =
            let r = has_flat_map (λ (p : PairParts). p.left ++ p.right) ps i h in
            let e = of_entry ids [] ps m.firsts r.0 r.1 in
            ⊎_elim
            (λ k. left_range e.0 e.1 i (subst (λ l. Has l i) (sym e.2) k))
            (λ k. right_range e.0 e.1 i (subst (λ l. Has l i) (sym e.3) k))
            (has_append r.0.left r.0.right i r.2)

        guards : (i : ℕ) → Has (tests_of_pairs ps) i → IsTestInRange whole.tests (test_tree_at t i)
        guards i h =
            let r = has_flat_map (λ (p : PairParts). option_to_list p.test) ps i h in
            let own = m.each r.0 r.1 in
            ⊎_elim
            (λ e. subst (λ n. IsTestInRange n (test_tree_at t i)) u.tests (subst (λ k. IsTestInRange w.diagrams.tests (test_tree_at t k)) e own.in_range))
            (λ x. absurd x)
            (subst (λ o. Has (option_to_list o) i) own.has_test r.2)

    module _ (c : CertParts) (cert : IsCertOf t Under ps c) where
      is_accepted : IsAccepted whole c
      is_accepted = record {
        tests = cert.tests_in_range whole.tests whole.actions within;
        actions = cert.actions_in_range whole.tests whole.actions within;
        pairs = subst (λ style. ShowsSame style whole c) (sym cert.style_is) (subst (AreAcceptedUnder (short_hyps whole) longs) (sym cert.pairs) all_accepted);
      }

      sets_are : set_pairs c ≡ sets_of pairs
      sets_are = set_pairs_are c ∙ ap sets_of cert.pairs

      count : length (set_pairs c) ≡ length pairs
      count = ap length sets_are ∙ length-map pairs (λ (p : TestedPair). p.sets)

      is_concise : IsConciseUnder whole c
      is_concise = record {
        accepted = is_accepted;
        under = cert.style_is;
        differ = subst AllDiffer (sym sets_are) all_differ;
        counted = counted;
        fewer = fewer;
        reached = subst (AreAllReached counted whole.tests whole.actions) (sym cert.pairs) all_reached;
        bounded = subst (λ n. n ≤ 2 ^ (acts (closed longs).left + 1) * 2 ^ (acts (closed longs).right + 1)) (sym count) few.all;
        guarded = λ none left right. subst (λ n. n ≤ (acts whole.left + 2) * (acts whole.right + 2)) (sym count) (guarded_few none left right);
      }
        where
          guarded_few : long_hyps whole ≡ [] → IsGuarded whole.left → IsGuarded whole.right → length pairs ≤ (acts whole.left + 2) * (acts whole.right + 2)
          guarded_few none left right =
              let left_same : (closed longs).left ≡ whole.left = ap (λ hs. (closed_under whole.actions hs whole.left whole.right).left) none in
              let right_same : (closed longs).right ≡ whole.right = ap (λ hs. (closed_under whole.actions hs whole.left whole.right).right) none in
              subst (λ e. length pairs ≤ (acts e + 2) * (acts whole.right + 2)) left_same
              (subst (λ e. length pairs ≤ (acts (closed longs).left + 2) * (acts e + 2)) right_same
              (few.guarded (subst IsGuarded (sym left_same) left) (subst IsGuarded (sym right_same) right)))

      pub certified : IsDecisionUnder whole (Equal c)
      certified = (accepted_under_same whole (short_hyps whole) (long_hyps whole) pairs (split_by_degree whole) all_accepted, is_concise)

-- the ids of the closed sides, in a grown store
pub closed_known : (s t : NodeParts) (q : ProblemParts) → IsProblem q → (ids : ClosedIds) → Grows s t → AreNodes t → AreIdsOf s (closed q) ids → AreClosedIds q t ids
closed_known s t q problem ids grows sound are =
    let later = ids_kept s t (closed q) ids grows are in
    record {
      sound = sound;
      left_id = left_term t q problem ids later;
      right_id = right_term t q problem ids later;
      left = later.left;
      right = later.right;
      universal_id = later.universal_id;
      universal = later.universal;
    }

pub closed_later : (s t : NodeParts) (q : ProblemParts) → IsProblem q → (ids : ClosedIds) → Grows s t → AreNodes t → AreClosedIds q s ids → AreClosedIds q t ids
closed_later s t q problem ids grows sound are =
    closed_known s t q problem ids grows sound (record { left = are.left; left_id = are.left_id.is_id; right = are.right; right_id = are.right_id.is_id; universal = are.universal; universal_id = are.universal_id })

pub refuted : (whole : ProblemParts) (x : GuardedString) → IsShortest whole x → IsDecisionUnder whole (Different x)
refuted whole x shortest = (refuted_not_same whole x shortest.refutes, shortest)
