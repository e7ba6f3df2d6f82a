-- The pair that is processed, one action after the other: the items of an action represent its next sets, and the pairs
-- that its cases list make them congruent.
use Rattle.std.proofs.Common.{◌≡◌, ◌<◌, ℕ, zero, suc, inl, inr, ⊎_elim, List, [], ◌∷◌, ◌++◌, length, replicate, slice_get, Bool, Option, Some, None, refl, sym, ap, ◌∙◌, subst, append-nil, arith}
use Rattle.kat_model.specs.Members.{Has}
use Rattle.kat_model.specs.Steps.{Atom}
use Rattle.kat_model.specs.Problems.{ProblemParts}
use Rattle.kat_model.specs.Pairs.{SetPair}
use Rattle.kat_model.proofs.Lists.{has_append}
use Rattle.kat_model.proofs.Places.{has_at}
use Rattle.term_nodes.specs.NodeLists.{NodeParts, IsTerm, AreNodes}
use Rattle.term_nodes.specs.NodeTrees.{tree_at}
use Rattle.term_nodes.proofs.TermTrees.{one_id_a_tree}
use Rattle.test_diagrams.specs.Functions.{DiagramsParts, KeepsFunctions}
use Rattle.partial_derivs.specs.declared.moves.Steps.{Steps}
use Rattle.partial_derivs.specs.Moves.{IsTermOf, IsStepsOf}
use Rattle.partial_derivs.specs.Tables.{AreRight}
use Rattle.partial_derivs.proofs.Kept.{Keeps-functions, IsStepsBy-kept}
use Rattle.partial_derivs.proofs.Tables.{AreRight-kept}
use Rattle.walk_up_to.specs.Walks.{Entry, pairs_of, AreCongruentAfter}
use Rattle.walk_up_to.specs.Working.Visits.{AddsEntries}
use Rattle.term_nodes.specs.NumberSets.{terms_of}
use Rattle.walk_up_to.specs.Listings.{IdEntry, pair_of, entry_of, entries_of}
use Rattle.walk_pairs.specs.IdSets.{IsIdSet}
use Rattle.walk_up_to.specs.Marks.{ListedPairsParts}
use Rattle.walk_pairs.specs.Items.{AreItemsOf, AreLedTo}
use Rattle.walk_up_to.specs.Cases.{Extends}
use Rattle.walk_up_to.specs.Working.IdWalks.{AreListedOf, Represent, AreVisited, Visits, IsPastLimit, PassesLimit}
use Rattle.walk_up_to.specs.Working.Walking.{IsUnderWay, AreStepsAt, IsExpanded}
use Rattle.walk_pairs.specs.declared.items.Item.{Item}
use Rattle.walk_up_to.specs.declared.branching.StepSource.{StepSource}
use Rattle.walk_up_to.specs.declared.worklist.Worklist.{Worklist}
use Rattle.walk_pairs.specs.declared.found.BothSteps.{BothSteps}
use Rattle.walk_pairs.proofs.PlaceNumbers.{mapped_at, at_mapped}
use Rattle.walk_pairs.proofs.NextSets.{next_of_ids, target_term}
use Rattle.walk_up_to.proofs.Visiting.{grows_then, grown_at, grown_after}

-- ---- the items of an action

items_represent : (q : ProblemParts) (store : NodeParts) (d : DiagramsParts) (p : SetPair) (left right : Steps) (act : ℕ) (items : List Item) (decided : List (Option Bool)) → d.tests ≡ q.tests
    → IsStepsOf store d p.left left → IsStepsOf store d p.right right → AreItemsOf d left.moves.items right.moves.items act items → AreLedTo left.moves.items right.moves.items items
    → Represent q store d items p act decided
items_represent q store d p left right act items decided tests on_left on_right are led_items = record {
  targets = λ i h.
      subst (λ n. IsTermOf store n i.target) tests
      (⊎_elim (target_term store d.tests left.moves.items on_left.targets i.target) (target_term store d.tests right.moves.items on_right.targets i.target) (led_items i h));
  lefts = λ atom wide c. next_of_ids store d act atom p.left left _ on_left (wide ∙ sym tests) (are.lefts atom (wide ∙ sym tests));
  rights = λ atom wide c. next_of_ids store d act atom p.right right _ on_right (wide ∙ sym tests) (are.rights atom (wide ∙ sym tests));
}

-- each atom belongs to the case in which no test is decided
extends_none : (n : ℕ) (atom : Atom) → length atom ≡ n → Extends (replicate n None) atom
extends_none zero [] e = tt
extends_none zero (b ∷ bs) e = absurd (omega (arith, e))
extends_none (suc n) [] e = absurd (omega (arith, e))
extends_none (suc n) (b ∷ bs) e = extends_none n bs (omega (arith, e))

-- ---- entries of ids

-- different ids of a store have different trees
module _ (store : NodeParts) (is : AreNodes store) where
  one_list : (ks ls : List ℕ) → ((i : ℕ) → Has ks i → IsTerm store i) → ((i : ℕ) → Has ls i → IsTerm store i) → terms_of store ks ≡ terms_of store ls → ks ≡ ls
  one_list [] [] p r e = refl
  one_list [] (l ∷ ls) p r e = absurd cc
  one_list (k ∷ ks) [] p r e = absurd cc
  one_list (k ∷ ks) (l ∷ ls) p r e =
      let first : tree_at store k ≡ tree_at store l = cc in
      let others : terms_of store ks ≡ terms_of store ls = cc in
      let same : k ≡ l = one_id_a_tree store is k l (p k (inl refl)) (r l (inl refl)) first in
      let rest : ks ≡ ls = one_list ks ls (λ i h. p i (inr h)) (λ i h. r i (inr h)) others in
      λ v. same v ∷ rest v

  one_set : (n : ℕ) (ks ls : List ℕ) → IsIdSet store n ks → IsIdSet store n ls → terms_of store ks ≡ terms_of store ls → ks ≡ ls
  one_set n ks ls p r e = one_list ks ls (λ i h. (p.there i h).is_id) (λ i h. (r.there i h).is_id) e

  one_entry : (n : ℕ) (a b : IdEntry) → IsIdSet store n a.left × IsIdSet store n a.right → IsIdSet store n b.left × IsIdSet store n b.right → entry_of store a ≡ entry_of store b → a ≡ b
  one_entry n a b p r e =
      let left : a.left ≡ b.left = one_set n a.left b.left p.0 r.0 (ap (λ (x : Entry). x.pair.left) e) in
      let right : a.right ≡ b.right = one_set n a.right b.right p.1 r.1 (ap (λ (x : Entry). x.pair.right) e) in
      λ v. record { left = left v; right = right v; origin = (ap (λ (x : Entry). x.origin) e) v }

-- an entry of ids keeps its place when entries are listed
kept_entry : (q : ProblemParts) (store : NodeParts) (old new : ListedPairsParts) (done place : ℕ) (e : IdEntry) → AreListedOf q store old done → AreListedOf q store new done → AddsEntries (entries_of store old.pairs) (entries_of store new.pairs)
    → slice_get old.pairs place ≡ Some e → slice_get new.pairs place ≡ Some e
kept_entry q store old new done place e was is grows at =
    let there = grown_at (entries_of store old.pairs) (entries_of store new.pairs) place (entry_of store e) grows (at_mapped (entry_of store) old.pairs place e at) in
    let f = mapped_at (entry_of store) new.pairs place (entry_of store e) there in
    f.1 ∙ ap (λ (x : IdEntry). Some x) (one_entry store is.sound q.tests f.0 e (is.sets f.0 (has_at new.pairs place f.0 f.1)) (was.sets e (has_at old.pairs place e at)) f.2)

-- ---- one action after another

-- the new pairs are the old ones and additional pairs, under which the next sets of the pair by each of the actions are
-- congruent
pub record HasStepped (q : ProblemParts) (store : NodeParts) (old new : ListedPairsParts) (place : ℕ) (p : SetPair) (acts : List ℕ) : Type 0 where
  pub listed : AreListedOf q store new place
  pub grows : AddsEntries (entries_of store old.pairs) (entries_of store new.pairs)
  pub congruent : (a : ℕ) → Has acts a → AreCongruentAfter q (pairs_of (entries_of store new.pairs)) p a

-- for every problem, store and pair
abbrev pub StepsBy : ℕ → Worklist → ListedPairsParts → ℕ → BothSteps → List ℕ → Type 0
StepsBy actions old new place steps acts =
    (q : ProblemParts) (store : NodeParts) → actions ≡ q.actions → (e : IdEntry) → IsUnderWay q store old place → slice_get old.listed.pairs place ≡ Some e → AreStepsAt store old e steps
    → HasStepped q store old.listed new place (pair_of store e) acts

-- before the first action
pub steps_none : (actions : ℕ) (old : Worklist) (place : ℕ) (steps : BothSteps) → StepsBy actions old old.listed place steps []
steps_none actions old place steps q store count e under at steps_at = record { listed = under.listed; grows = record { more = []; is = sym (append-nil (entries_of store old.listed.pairs)) }; congruent = λ a h. absurd h }

module _ (actions : ℕ) (old : Worklist) (place : ℕ) (steps : BothSteps) (acts : List ℕ) where
  module _ (d : DiagramsParts) (mid : ListedPairsParts) (source : StepSource) (items : List Item) (kept : KeepsFunctions old.diagrams d) (same_place : source.place ≡ place) (below : source.act < actions)
      (are : AreItemsOf d steps.left.moves.items steps.right.moves.items source.act items) (led_items : AreLedTo steps.left.moves.items steps.right.moves.items items)
      (before : StepsBy actions old mid place steps acts) where
    -- the assumptions of the cases of the action
    module _ (q : ProblemParts) (store : NodeParts) (count : actions ≡ q.actions) (e : IdEntry) (under : IsUnderWay q store old place) (at : slice_get old.listed.pairs place ≡ Some e) (steps_at : AreStepsAt store old e steps) where
      m : HasStepped q store old.listed mid place (pair_of store e) acts
      m = before q store count e under at steps_at

      tests : d.tests ≡ q.tests
      tests = kept.tests ∙ under.tests

      represents : Represent q store d items (pair_of store e) source.act (replicate d.tests None)
      represents =
          items_represent q store d (pair_of store e) steps.left steps.right source.act items (replicate d.tests None) tests
          (IsStepsBy-kept store store old.diagrams d (Keeps-functions store old.diagrams d kept) _ _ steps.left steps_at.left)
          (IsStepsBy-kept store store old.diagrams d (Keeps-functions store old.diagrams d kept) _ _ steps.right steps_at.right)
          are led_items

      acts_below : source.act < q.actions
      acts_below = subst (λ n. source.act < n) count below

      listed_there : AreListedOf q store mid source.place
      listed_there = subst (AreListedOf q store mid) (sym same_place) m.listed

      there : slice_get (entries_of store mid.pairs) source.place ≡ Some (entry_of store e)
      there =
          subst (λ n. slice_get (entries_of store mid.pairs) n ≡ Some (entry_of store e)) (sym same_place)
          (grown_at (entries_of store old.listed.pairs) (entries_of store mid.pairs) place (entry_of store e) m.grows (at_mapped (entry_of store) old.listed.pairs place e at))

    -- an additional action
    pub steps_more : (new : ListedPairsParts) → Visits d source (replicate d.tests None) items mid new → StepsBy actions old new place steps (acts ++ source.act ∷ [])
    steps_more new visits q store count e under at steps_at =
        record { listed = subst (AreListedOf q store new) same_place u.listed; grows = grows_then (entries_of store old.listed.pairs) (entries_of store mid.pairs) (entries_of store new.pairs) before_it.grows u.visited.grows; congruent = all }
      where
        before_it : HasStepped q store old.listed mid place (pair_of store e) acts
        before_it = m q store count e under at steps_at

        u : AreVisited q store source (pair_of store e) (replicate d.tests None) mid new
        u =
            visits q store (entry_of store e) (tests q store count e under at steps_at) (acts_below q store count e under at steps_at) (listed_there q store count e under at steps_at)
            (there q store count e under at steps_at) (represents q store count e under at steps_at)

        all : (a : ℕ) → Has (acts ++ source.act ∷ []) a → AreCongruentAfter q (pairs_of (entries_of store new.pairs)) (pair_of store e) a
        all a h =
            ⊎_elim
            (λ o. grown_after q (entries_of store mid.pairs) (entries_of store new.pairs) u.visited.grows (pair_of store e) a (before_it.congruent a o))
            (λ l.
            ⊎_elim
            (λ s. subst (AreCongruentAfter q (pairs_of (entries_of store new.pairs)) (pair_of store e)) s
            (λ atom wide. u.visited.congruent atom wide (extends_none d.tests atom (wide ∙ sym (tests q store count e under at steps_at)))))
            absurd l)
            (has_append acts (source.act ∷ []) a h)

    -- an action that needs more pairs than may be listed
    pub steps_pass : mid.limit ≡ old.listed.limit → PassesLimit d source (replicate d.tests None) items mid
        → (q : ProblemParts) (store : NodeParts) (e : IdEntry) → actions ≡ q.actions → IsUnderWay q store old place → slice_get old.listed.pairs place ≡ Some e → AreStepsAt store old e steps → IsPastLimit q old.listed.limit
    steps_pass limit passes q store e count under at steps_at =
        subst (IsPastLimit q) limit
        (passes q store (entry_of store e) (tests q store count e under at steps_at) (acts_below q store count e under at steps_at) (listed_there q store count e under at steps_at)
        (there q store count e under at steps_at) (represents q store count e under at steps_at))

  -- all actions
  pub steps_all : (new : Worklist) → KeepsFunctions old.diagrams new.diagrams → new.derivatives ≡ old.derivatives → ((a : ℕ) → a < actions → Has acts a) → StepsBy actions old new.listed place steps acts
      → (q : ProblemParts) (store : NodeParts) → actions ≡ q.actions → IsExpanded q store old new place steps
  steps_all new kept same all before q store count e under at steps_at =
      let m = before q store count e under at steps_at in (
        record {
          tests = kept.tests ∙ under.tests;
          listed = m.listed;
          right = subst (AreRight store new.diagrams) (sym same) (AreRight-kept store store old.diagrams new.diagrams old.derivatives (Keeps-functions store old.diagrams new.diagrams kept) under.right);
        },
        (λ a l. m.congruent a (all a (subst (λ n. a < n) (sym count) l))),
        kept_entry q store old.listed new.listed place place e under.listed m.listed m.grows at,
      )
