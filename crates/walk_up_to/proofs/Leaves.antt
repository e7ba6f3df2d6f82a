-- A case in which no guard depends on a test: it is covered, or its pair is listed.
use Rattle.std.proofs.Common.{◌≡◌, ◌<◌, ◌+◌, arith, ◌∷◌, ◌++◌, ⊎_elim, List, [], length, slice_get, refl, sym, ap, ◌∙◌, subst, Bool, true, false, suc, Option, Some, None, nat_eq}
use Rattle.std.proofs.lemmas.Bool.{true≢false}
use Rattle.std.proofs.lemmas.List.{length-map, length-append}
use Rattle.kat_model.specs.Members.{Has, IsSubset}
use Rattle.kat_model.specs.Steps.{set_next}
use Rattle.kat_model.specs.Problems.{ProblemParts}
use Rattle.term_nodes.specs.NumberSets.{are_ascending, terms_of}
use Rattle.std.specs.Option.{option_map}
use Rattle.term_nodes.specs.NodeTrees.{tree_at}
use Rattle.kat_model.proofs.Lists.{has_append}
use Rattle.term_nodes.specs.NodeLists.{NodeParts}
use Rattle.test_diagrams.specs.Functions.{DiagramsParts, IsDiagramId, IsConstant}
use Rattle.test_diagrams.specs.Reduced.{IsReduced}
use Rattle.partial_derivs.specs.Moves.{IsTermOf}
use Rattle.walk_up_to.specs.Walks.{StepOrigin, Entry, IsWalk}
use Rattle.walk_up_to.specs.Working.Visits.{IsVisited}
use Rattle.walk_up_to.specs.Listings.{IdEntry, pair_of, entry_of, entries_of, AreIdSets}
use Rattle.walk_pairs.specs.IdSets.{IsIdSet}
use Rattle.walk_up_to.specs.Marks.{ListedPairsParts, is_full}
use Rattle.walk_up_to.specs.Decisions.{IsWithinLimit}
use Rattle.walk_pairs.specs.Items.{guard_of, targets_under, open_targets}
use Rattle.walk_up_to.specs.Covers.{covers}
use Rattle.walk_pairs.specs.Items.{AreEnds}
use Rattle.walk_up_to.specs.Cases.{Extends, least_of, AreConstant, IsCase}
use Rattle.walk_up_to.specs.Working.IdWalks.{AreListedOf, Represent, AreVisited, Visits, PassesLimit}
use Rattle.walk_pairs.specs.declared.items.Item.{Item}
use Rattle.walk_pairs.specs.declared.items.Ends.{Ends}
use Rattle.walk_pairs.specs.declared.items.Side.{Side}
use Rattle.walk_pairs.specs.declared.items.Side.TheVariants.{Left, Right}
use Rattle.walk_up_to.specs.declared.branching.StepSource.{StepSource}
use Rattle.walk_pairs.proofs.ItemTargets.{under_where, has_where, where_ascending}
use Rattle.walk_up_to.proofs.CoveredItems.{AreTargetIds, covers_given}
use Rattle.walk_up_to.proofs.CaseItems.{terms_within, are_between, open_sure, same_sure}
use Rattle.walk_up_to.proofs.Visiting.{visited_covered, visited_listed}
use Rattle.walk_up_to.proofs.PairLimits.{room_for_one, full_limit}

pub entries_append : (store : NodeParts) (es fs : List IdEntry) → entries_of store (es ++ fs) ≡ entries_of store es ++ entries_of store fs
entries_append store [] fs = refl
entries_append store (e ∷ es) fs = ap (λ xs. entry_of store e ∷ xs) (entries_append store es fs)

least_length : (ds : List (Option Bool)) → length (least_of ds) ≡ length ds
least_length [] = refl
least_length (None ∷ ds) = ap suc (least_length ds)
least_length (Some b ∷ ds) = ap suc (least_length ds)

least_extends : (ds : List (Option Bool)) → Extends ds (least_of ds)
least_extends [] = tt
least_extends (None ∷ ds) = least_extends ds
least_extends (Some b ∷ ds) = (refl, least_extends ds)

module _ (d : DiagramsParts) (source : StepSource) (decided : List (Option Bool)) (items : List Item) (ends : Ends) (are_ends : AreEnds d ends) where
  target_ids : (q : ProblemParts) (store : NodeParts) (from : Entry) → Represent q store d items from.pair source.act decided → AreTargetIds store items
  target_ids q store from represents i h = (represents.targets i h).is_id

  -- a covered case lists nothing
  pub visits_covered : (r : ListedPairsParts) → covers r ends items ≡ true → Visits d source decided items r r
  visits_covered r e q store from tests acts listed at represents = record {
    listed = listed;
    visited =
        visited_covered q source.place from.pair source.act (entries_of store r.pairs) (Extends decided) (terms_of store (targets_under ends.always Left items)) (terms_of store (targets_under ends.always Right items)) (terms_of store (open_targets ends.never ends.always Left items)) (terms_of store (open_targets ends.never ends.always Right items)) listed.walk
        (λ atom wide c. (
          are_between d ends are_ends items atom (wide ∙ sym tests) Left Right (λ i. refl) (λ i s. s) store (set_next from.pair.left atom source.act) (set_next from.pair.right atom source.act) (represents.lefts atom wide c) (represents.rights atom wide c),
          are_between d ends are_ends items atom (wide ∙ sym tests) Right Left (λ i. refl) (λ i s. sym s) store (set_next from.pair.right atom source.act) (set_next from.pair.left atom source.act) (represents.rights atom wide c) (represents.lefts atom wide c),
        ))
        ((covers_given q store r source.place listed ends items (target_ids q store from represents)).0 e);
  }

  abbrev pub leaf_origin : StepOrigin
  leaf_origin = record { place = source.place; atom = least_of decided; act = source.act }

  abbrev pub leaf_entry : IdEntry
  leaf_entry = record { left = targets_under ends.always Left items; right = targets_under ends.always Right items; origin = Some leaf_origin }

  -- a case that is not covered lists its pair
  module _ (r : ListedPairsParts) (is_case : IsCase d decided items) (constant : AreConstant d items) (reduced : IsReduced d) (uncovered : covers r ends items ≡ false) where
    module _ (q : ProblemParts) (store : NodeParts) (from : Entry) (tests : d.tests ≡ q.tests) (acts : source.act < q.actions) (listed : AreListedOf q store r source.place) (at : slice_get (entries_of store r.pairs) source.place ≡ Some from) (represents : Represent q store d items from.pair source.act decided) where
      side_set : (side : Side) → IsIdSet store q.tests (targets_under ends.always side items)
      side_set side = record {
        there = λ k h.
            let f = has_where (λ j. nat_eq (guard_of side j) ends.always) items k (subst (λ ts. Has ts k) (under_where ends.always side items) h) in
            subst (IsTermOf store q.tests) f.3 (represents.targets f.0 f.1);
        ascending = subst (λ ts. are_ascending ts ≡ true) (sym (under_where ends.always side items)) (where_ascending (λ j. nat_eq (guard_of side j) ends.always) items is_case.are.ascending);
      }

      sets : AreIdSets store q.tests (r.pairs ++ leaf_entry ∷ [])
      sets e h =
          ⊎_elim
          (listed.sets e)
          (λ l. ⊎_elim (λ s. subst (λ (x : IdEntry). IsIdSet store q.tests x.left × IsIdSet store q.tests x.right) s (side_set Left, side_set Right)) absurd l)
          (has_append r.pairs (leaf_entry ∷ []) e h)

      least_wide : length (least_of decided) ≡ q.tests
      least_wide = least_length decided ∙ is_case.tests ∙ tests

      ids : (side : Side) (i : Item) → Has items i → IsDiagramId d (guard_of side i)
      ids Left i h = is_case.are.lefts i h
      ids Right i h = is_case.are.rights i h

      constants : (side : Side) (i : Item) → Has items i → IsConstant d (guard_of side i)
      constants Left i h = (constant i h).0
      constants Right i h = (constant i h).1

      opens : (side : Side) → IsSubset (terms_of store (open_targets ends.never ends.always side items)) (terms_of store (targets_under ends.always side items))
      opens side = terms_within store (open_targets ends.never ends.always side items) (targets_under ends.always side items) (open_sure d ends are_ends items (least_of decided) (least_wide ∙ sym tests) reduced side (ids side) (constants side))

      with_pair : IsVisited q (entries_of store r.pairs) (entries_of store r.pairs ++ entry_of store leaf_entry ∷ []) source.place from.pair source.act (Extends decided)
      with_pair =
          visited_listed q (entries_of store r.pairs) source.place from (pair_of store leaf_entry) leaf_origin (Extends decided) (terms_of store (open_targets ends.never ends.always Left items)) (terms_of store (open_targets ends.never ends.always Right items)) listed.walk at refl least_wide acts (least_extends decided)
          (λ atom wide c. (
            same_sure d ends are_ends items atom (wide ∙ sym tests) reduced Left (ids Left) (constants Left) store (set_next from.pair.left atom source.act) (represents.lefts atom wide c),
            same_sure d ends are_ends items atom (wide ∙ sym tests) reduced Right (ids Right) (constants Right) store (set_next from.pair.right atom source.act) (represents.rights atom wide c),
          ))
          (opens Left)
          (opens Right)
          (λ c. true≢false (sym ((covers_given q store r source.place listed ends items (target_ids q store from represents)).1 c) ∙ uncovered))

  module _ (r new : ListedPairsParts) (is_case : IsCase d decided items) (constant : AreConstant d items) (reduced : IsReduced d) (uncovered : covers r ends items ≡ false) (pairs : new.pairs ≡ r.pairs ++ leaf_entry ∷ []) (universal : new.universal ≡ r.universal) (count : new.count ≡ r.count) (limit : new.limit ≡ r.limit) (room : is_full r ≡ false) where
    module _ (q : ProblemParts) (store : NodeParts) (from : Entry) (tests : d.tests ≡ q.tests) (acts : source.act < q.actions) (listed : AreListedOf q store r source.place) (at : slice_get (entries_of store r.pairs) source.place ≡ Some from) (represents : Represent q store d items from.pair source.act decided) where
      more : entries_of store r.pairs ++ entry_of store leaf_entry ∷ [] ≡ entries_of store new.pairs
      more = sym (entries_append store r.pairs (leaf_entry ∷ [])) ∙ sym (ap (entries_of store) pairs)

      longer : length new.pairs ≡ length r.pairs + 1
      longer = ap length pairs ∙ length-append r.pairs (leaf_entry ∷ [])

      leaf_visited : AreVisited q store source from.pair decided r new
      leaf_visited = record {
        listed = record {
          sound = listed.sound;
          count = count ∙ listed.count;
          sets = subst (AreIdSets store q.tests) (sym pairs) (sets r is_case constant reduced uncovered q store from tests acts listed at represents);
          universal = ap (option_map (tree_at store)) universal ∙ listed.universal;
          universal_id = λ u e. listed.universal_id u (sym universal ∙ e);
          few = subst (λ o. IsWithinLimit o (length new.pairs)) (sym limit) (subst (IsWithinLimit r.limit) (sym longer) (room_for_one r.limit (length r.pairs) room));
          walk = subst (λ es. IsWalk q es source.place) more (with_pair r is_case constant reduced uncovered q store from tests acts listed at represents).walk;
        };
        visited = subst (λ es. IsVisited q (entries_of store r.pairs) es source.place from.pair source.act (Extends decided)) more (with_pair r is_case constant reduced uncovered q store from tests acts listed at represents);
      }

    pub visits_listed : Visits d source decided items r new
    visits_listed = leaf_visited

  -- if the list is full, a case that is not covered needs more pairs than may be listed
  pub leaf_passes : (r : ListedPairsParts) → IsCase d decided items → AreConstant d items → IsReduced d → covers r ends items ≡ false → is_full r ≡ true → PassesLimit d source decided items r
  leaf_passes r is_case constant reduced uncovered full q store from tests acts listed at represents =
      let f = full_limit r.limit (length r.pairs) full in
      let es = entries_of store r.pairs ++ entry_of store leaf_entry ∷ [] in
      let more : length es ≡ length r.pairs + 1 = length-append (entries_of store r.pairs) (entry_of store leaf_entry ∷ []) ∙ ap (λ n. n + 1) (length-map r.pairs (entry_of store)) in
      record {
        most = f.0;
        limited = f.1;
        entries = es;
        done = source.place;
        walk = (with_pair r is_case constant reduced uncovered q store from tests acts listed at represents).walk;
        many = omega (arith, more, f.2);
      }
