-- A walk under way: its start, the growth of store and diagrams, and the processing of a pair.
use Rattle.std.proofs.Common.{◌≡◌, ◌≢◌, ◌≤◌, ◌<◌, ◌+◌, inl, inr, ⊎_elim, ℕ, suc, List, [], ◌∷◌, length, get_or, slice_get, All, Some, None, refl, sym, ap, ◌∙◌, subst, arith}
use mathlib.Core.Path.{ap₂}
use Rattle.std.specs.Option.{option_map}
use Rattle.std.proofs.lemmas.List.{length-map}
use Rattle.std.proofs.lemmas.Option.{slice_get-get_or}
use Rattle.kat_model.specs.Trees.{Term}
use Rattle.kat_model.specs.Members.{Has}
use Rattle.kat_model.specs.Problems.{ProblemParts, IsInRange, HasTestsBelow, IsProblem}
use Rattle.kat_model.specs.Steps.{Atom, set_out, set_next}
use Rattle.kat_model.specs.Closed.{universal_of, closed_under, closed}
use Rattle.kat_model.proofs.Places.{has_at}
use Rattle.kat_model.proofs.Ranges.{IsInRange-HasTestsBelow, IsInRange-universal_of}
use Rattle.term_nodes.specs.NodeLists.{NodeParts, IsTerm, AreNodes}
use Rattle.term_nodes.specs.NodeTrees.{tree_at}
use Rattle.term_nodes.specs.Growth.{Grows}
use Rattle.term_nodes.proofs.Growing.{Grows-trans}
use Rattle.test_diagrams.specs.Functions.{DiagramsParts, value_of, IsAtomOf, KeepsFunctions}
use Rattle.partial_derivs.specs.declared.moves.Steps.{Steps}
use Rattle.partial_derivs.specs.Moves.{IsTermOf, IsStepsOf, Keeps}
use Rattle.partial_derivs.specs.Tables.{AreRight}
use Rattle.partial_derivs.proofs.Kept.{IsTermOf-trees, IsStepsBy-kept, AreGuards-kept, Keeps-functions}
use Rattle.partial_derivs.proofs.Tables.{AreRight-kept}
use Rattle.walk_up_to.specs.Walks.{Entry, pairs_of, AcceptAlike, AreCongruentAfter, IsWalk}
use Rattle.certificate.specs.Decisions.{pair_limit}
use Rattle.term_nodes.specs.NumberSets.{terms_of}
use Rattle.walk_up_to.specs.Listings.{IdEntry, pair_of, entry_of, entries_of, AreIdSets}
use Rattle.walk_pairs.specs.IdSets.{IsIdSet}
use Rattle.walk_up_to.specs.Marks.{ListedPairsParts}
use Rattle.walk_up_to.specs.Decisions.{IsWithinLimit}
use Rattle.walk_up_to.specs.Working.IdWalks.{AreListedOf}
use Rattle.walk_up_to.specs.Working.Walking.{IsUnderWay, AreStepsAt, HasStepIds, IsDifference}
use Rattle.walk_up_to.specs.declared.worklist.Worklist.{Worklist}
use Rattle.walk_pairs.specs.declared.found.BothSteps.{BothSteps}
use Rattle.walk_up_to.proofs.Endings.{walk_few, walk_ended}
use Rattle.walk_pairs.proofs.PlaceNumbers.{at_mapped}
use Rattle.walk_pairs.proofs.SideRanges.{sides_in_range}
use Rattle.walk_up_to.proofs.WalkSteps.{first_entry, walk_starts, walk_goes_on}
use Rattle.walk_pairs.proofs.ClosedTerms.{universal_kept}
use Rattle.walk_pairs.proofs.IdSets.{all_terms}

-- ---- the start

-- the universal term has its tests in range
universal_below : (q : ProblemParts) (store : NodeParts) (u : ℕ) → option_map (tree_at store) (Some u) ≡ (closed q).universal → HasTestsBelow q.tests (tree_at store u)
universal_below q store u e = go q.hyps e
  where
    go : (hs : List Term) → Some (tree_at store u) ≡ (closed_under q.actions hs q.left q.right).universal → HasTestsBelow q.tests (tree_at store u)
    go [] f = absurd cc
    go (h ∷ hs) f =
        let same : tree_at store u ≡ universal_of q.actions = cc in
        subst (HasTestsBelow q.tests) (sym same) (IsInRange-HasTestsBelow q.tests q.actions (universal_of q.actions) (IsInRange-universal_of q.tests q.actions))

abbrev pub first_ids : ℕ → ℕ → IdEntry
first_ids left right = record { left = left ∷ []; right = right ∷ []; origin = None }

module _ (q : ProblemParts) (store : NodeParts) (problem : IsProblem q) (sound : AreNodes store) (left right : ℕ) where
  module _ (left_id : IsTerm store left) (left_tree : tree_at store left ≡ (closed q).left) (right_id : IsTerm store right) (right_tree : tree_at store right ≡ (closed q).right) where
    single_set : (i : ℕ) (side : Term) → IsTerm store i → tree_at store i ≡ side → IsInRange q.tests q.actions side → IsIdSet store q.tests (i ∷ [])
    single_set i side is_id tree range = record {
      there = λ j h. ⊎_elim (λ e. subst (IsTermOf store q.tests) e own) absurd h;
      ascending = refl;
    }
      where
        own : IsTermOf store q.tests i
        own = record { is_id = is_id; in_range = subst (HasTestsBelow q.tests) (sym tree) (IsInRange-HasTestsBelow q.tests q.actions side range) }

    first_sets : AreIdSets store q.tests (first_ids left right ∷ [])
    first_sets e h =
        ⊎_elim
        (λ s. subst (λ (x : IdEntry). IsIdSet store q.tests x.left × IsIdSet store q.tests x.right) s (single_set left (closed q).left left_id left_tree (sides_in_range q problem).0, single_set right (closed q).right right_id right_tree (sides_in_range q problem).1))
        absurd
        h

    first_entries : first_entry q ∷ [] ≡ entries_of store (first_ids left right ∷ [])
    first_entries = ap₂ (λ l r. both l r) (sym left_tree) (sym right_tree)
      where
        both : Term → Term → List Entry
        both l r = record { pair = record { left = l ∷ []; right = r ∷ [] }; origin = None } ∷ []

    -- the list with only the first pair
    pub listed_start : (r : ListedPairsParts) → r.pairs ≡ first_ids left right ∷ [] → IsWithinLimit r.limit 1 → r.count ≡ length store.terms → ((u : ℕ) → r.universal ≡ Some u → IsTerm store u) → option_map (tree_at store) r.universal ≡ (closed q).universal → AreListedOf q store r 0
    listed_start r pairs room count ids universal = record {
      sound = sound;
      count = count;
      sets = subst (AreIdSets store q.tests) (sym pairs) first_sets;
      universal = universal;
      universal_id = λ u e. record { is_id = ids u e; in_range = universal_below q store u (ap (option_map (tree_at store)) (sym e) ∙ universal) };
      few = subst (λ (ps : List IdEntry). IsWithinLimit r.limit (length ps)) (sym pairs) room;
      walk = subst (λ es. IsWalk q (entries_of store es) 0) (sym pairs) (subst (λ es. IsWalk q es 0) first_entries (walk_starts q));
    }

-- ---- a store that grows

module _ (old new : NodeParts) (kept : Grows old new) (n : ℕ) where
  pub terms_kept : (ids : List ℕ) → ((i : ℕ) → Has ids i → IsTermOf old n i) → terms_of new ids ≡ terms_of old ids
  terms_kept [] there = refl
  terms_kept (i ∷ ids) there = ap₂ (λ (x : Term) (xs : List Term). x ∷ xs) (kept.trees i (there i (inl refl)).is_id) (terms_kept ids (λ j h. there j (inr h)))

  pub set_kept : (ids : List ℕ) → IsIdSet old n ids → IsIdSet new n ids
  set_kept ids set = record { there = λ i h. IsTermOf-trees old new kept n i (set.there i h); ascending = set.ascending }

  entry_kept : (e : IdEntry) → IsIdSet old n e.left → IsIdSet old n e.right → entry_of new e ≡ entry_of old e
  entry_kept e left right = ap₂ (λ l r. with_sides l r) (terms_kept e.left left.there) (terms_kept e.right right.there)
    where
      with_sides : List Term → List Term → Entry
      with_sides l r = record { pair = record { left = l; right = r }; origin = e.origin }

  pub entries_kept : (es : List IdEntry) → AreIdSets old n es → entries_of new es ≡ entries_of old es
  entries_kept [] sets = refl
  entries_kept (e ∷ es) sets =
      ap₂ (λ (x : Entry) (xs : List Entry). x ∷ xs) (entry_kept e (sets e (inl refl)).0 (sets e (inl refl)).1) (entries_kept es (λ f h. sets f (inr h)))

module _ (q : ProblemParts) (old new : NodeParts) (kept : Grows old new) (sound : AreNodes new) (done : ℕ) where
  -- the listed pairs remain those of the walk, with the new count
  pub listed_kept : (r s : ListedPairsParts) → s ≡ record r { count = length new.terms } → AreListedOf q old r done → AreListedOf q new s done
  listed_kept r s is listed = subst (λ t. AreListedOf q new t done) (sym is) counted
    where
      counted : AreListedOf q new (record r { count = length new.terms }) done
      counted = record {
        sound = sound;
        count = refl;
        sets = λ e h. let s = listed.sets e h in (set_kept old new kept q.tests e.left s.0, set_kept old new kept q.tests e.right s.1);
        universal = universal_kept old new kept r.universal (λ u e. (listed.universal_id u e).is_id) ∙ listed.universal;
        universal_id = λ u e. IsTermOf-trees old new kept q.tests u (listed.universal_id u e);
        few = listed.few;
        walk = subst (λ es. IsWalk q es done) (sym (entries_kept old new kept q.tests r.pairs listed.sets)) listed.walk;
      }

  pub under_way_kept : (w x : Worklist) → x.diagrams.tests ≡ w.diagrams.tests → x.listed ≡ record w.listed { count = length new.terms } → AreRight new x.diagrams x.derivatives → IsUnderWay q old w done → IsUnderWay q new x done
  under_way_kept w x tests is right under_way = record { tests = tests ∙ under_way.tests; listed = listed_kept w.listed x.listed is under_way.listed; right = right }

-- when only diagrams are added
pub under_way_more : (q : ProblemParts) (store : NodeParts) (done : ℕ) (w x : Worklist) → KeepsFunctions w.diagrams x.diagrams → x.listed ≡ w.listed → x.derivatives ≡ w.derivatives → IsUnderWay q store w done → IsUnderWay q store x done
under_way_more q store done w x kept listed derivatives under_way = record {
  tests = kept.tests ∙ under_way.tests;
  listed = subst (λ r. AreListedOf q store r done) (sym listed) under_way.listed;
  right = subst (AreRight store x.diagrams) (sym derivatives) (AreRight-kept store store w.diagrams x.diagrams w.derivatives (Keeps-functions store w.diagrams x.diagrams kept) under_way.right);
}

-- ---- the steps of sets

module _ (old new : NodeParts) (n : ℕ) (ids : List ℕ) (set : IsIdSet old n ids) (steps : Steps) where
  -- the steps of a set whose trees are kept
  pub steps_there : (d : DiagramsParts) → Grows old new → IsStepsOf new d (terms_of old ids) steps → IsStepsOf new d (terms_of new ids) steps
  steps_there d kept is = subst (λ es. IsStepsOf new d es steps) (sym (terms_kept old new kept n ids set.there)) is

  pub steps_kept : (c d : DiagramsParts) → Keeps old new c d → IsStepsOf old c (terms_of old ids) steps → IsStepsOf new d (terms_of new ids) steps
  steps_kept c d kept is = steps_there d kept.trees (IsStepsBy-kept old new c d kept (set_out (terms_of old ids)) (set_next (terms_of old ids)) steps is)

-- the steps of one set and then of another, while store and diagrams grow
pub both_steps : (r s t : NodeParts) (b c d : DiagramsParts) (n : ℕ) (left right : List ℕ) (steps : BothSteps) → Keeps r s b c → Keeps s t c d → IsIdSet r n left → IsIdSet r n right
    → IsStepsOf s c (terms_of r left) steps.left → IsStepsOf t d (terms_of s right) steps.right
    → IsStepsOf t d (terms_of t left) steps.left × IsStepsOf t d (terms_of t right) steps.right
both_steps r s t b c d n left right steps first second left_set right_set left_steps right_steps = (
  steps_kept s t n left (set_kept r s first.trees n left left_set) steps.left c d second (steps_there r s n left left_set steps.left c first.trees left_steps),
  steps_there s t n right (set_kept r s first.trees n right right_set) steps.right d second.trees right_steps,
)

pub step_ids : (store : NodeParts) (w : Worklist) (e : IdEntry) (steps : BothSteps) → AreStepsAt store w e steps → HasStepIds w steps
step_ids store w e steps at = record { left = at.left.guards; right = at.right.guards; left_merged = at.left.merged; right_merged = at.right.merged }

module _ (store : NodeParts) (w x : Worklist) (kept : KeepsFunctions w.diagrams x.diagrams) (steps : BothSteps) where
  more : Keeps store store w.diagrams x.diagrams
  more = Keeps-functions store w.diagrams x.diagrams kept

  pub step_ids_more : HasStepIds w steps → HasStepIds x steps
  step_ids_more ids = record {
    left = AreGuards-kept store store w.diagrams x.diagrams more steps.left.moves.items ids.left;
    right = AreGuards-kept store store w.diagrams x.diagrams more steps.right.moves.items ids.right;
    left_merged = ids.left_merged;
    right_merged = ids.right_merged;
  }

  pub steps_at_more : (e : IdEntry) → AreStepsAt store w e steps → AreStepsAt store x e steps
  steps_at_more e at = record {
    left = IsStepsBy-kept store store w.diagrams x.diagrams more (set_out (terms_of store e.left)) (set_next (terms_of store e.left)) steps.left at.left;
    right = IsStepsBy-kept store store w.diagrams x.diagrams more (set_out (terms_of store e.right)) (set_next (terms_of store e.right)) steps.right at.right;
  }

-- ---- a pair is processed

module _ (q : ProblemParts) (store : NodeParts) (w : Worklist) (e : IdEntry) (steps : BothSteps) (tests : w.diagrams.tests ≡ q.tests) (at : AreStepsAt store w e steps) where
  -- if the steps accept alike, the sets do
  pub alike : steps.left.accepts ≡ steps.right.accepts → AcceptAlike q (pair_of store e)
  alike same atom wide =
      let fits : IsAtomOf w.diagrams atom = wide ∙ sym tests in
      sym (at.left.accepts.value atom fits) ∙ ap (λ (id : ℕ). value_of w.diagrams id atom) same ∙ at.right.accepts.value atom fits

  -- if the steps differ at an atom, the sets do
  pub apart : (x : Worklist) (place : ℕ) (atom : Atom) → x.listed ≡ w.listed → slice_get w.listed.pairs place ≡ Some e → IsAtomOf w.diagrams atom → value_of w.diagrams steps.left.accepts atom ≢ value_of w.diagrams steps.right.accepts atom → IsDifference q store x place atom
  apart x place atom listed here fits differ = record {
    entry = entry_of store e;
    at = at_mapped (entry_of store) x.listed.pairs place e (ap (λ (r : ListedPairsParts). slice_get r.pairs place) listed ∙ here);
    fits = fits ∙ tests;
    differ = λ same. differ (at.left.accepts.value atom fits ∙ same ∙ sym (at.right.accepts.value atom fits));
  }

pub taken : (q : ProblemParts) (store : NodeParts) (w : Worklist) (place : ℕ) (e : IdEntry) → IsUnderWay q store w place → slice_get w.listed.pairs place ≡ Some e → AcceptAlike q (pair_of store e)
    → ((a : ℕ) → a < q.actions → AreCongruentAfter q (pairs_of (entries_of store w.listed.pairs)) (pair_of store e) a)
    → IsUnderWay q store w (place + 1)
taken q store w place e under_way here outputs steps = record {
  tests = under_way.tests;
  listed = record {
    sound = under_way.listed.sound;
    count = under_way.listed.count;
    sets = under_way.listed.sets;
    universal = under_way.listed.universal;
    universal_id = under_way.listed.universal_id;
    few = under_way.listed.few;
    walk = subst (IsWalk q (entries_of store w.listed.pairs)) one_more (walk_goes_on q (entries_of store w.listed.pairs) place under_way.listed.walk (entry_of store e) (at_mapped (entry_of store) w.listed.pairs place e here) (record { outputs = outputs; steps = steps }));
  };
  right = under_way.right;
}
  where
    one_more : suc place ≡ place + 1
    one_more = omega arith

-- ---- places

-- the place of a listed pair is below the bound on pairs
pub place_limit : (q : ProblemParts) (store : NodeParts) (w : Worklist) (place : ℕ) → IsUnderWay q store w place → place < length w.listed.pairs → place < pair_limit q
place_limit q store w place under_way within =
    let few : length (entries_of store w.listed.pairs) ≤ pair_limit q = walk_few q (entries_of store w.listed.pairs) place under_way.listed.walk in
    omega (arith, within, few, length-map w.listed.pairs (entry_of store))

-- if no pair is left, all listed pairs are processed
pub all_taken : (q : ProblemParts) (store : NodeParts) (w : Worklist) (place : ℕ) → IsUnderWay q store w place → length w.listed.pairs ≤ place → IsUnderWay q store w (length w.listed.pairs)
all_taken q store w place under_way past = record {
  tests = under_way.tests;
  listed = record {
    sound = under_way.listed.sound;
    count = under_way.listed.count;
    sets = under_way.listed.sets;
    universal = under_way.listed.universal;
    universal_id = under_way.listed.universal_id;
    few = under_way.listed.few;
    walk = subst (IsWalk q (entries_of store w.listed.pairs)) (length-map w.listed.pairs (entry_of store)) (walk_ended q (entries_of store w.listed.pairs) place under_way.listed.walk (let l = length-map w.listed.pairs (entry_of store) in omega (arith, l, past)));
  };
  right = under_way.right;
}

-- ---- the steps at a place

-- a pair read in range is the one at that place
pub read_at : (ps read : List IdEntry) (place : ℕ) (p : IdEntry) → read ≡ ps → place < length ps → p ≡ get_or read place p → slice_get ps place ≡ Some p
read_at ps read place p same within is = slice_get-get_or ps place p within ∙ ap (λ l. Some (get_or l place p)) (sym same) ∙ ap Some (sym is)

module _ (q : ProblemParts) (s : NodeParts) (w : Worklist) (place : ℕ) (e : IdEntry) (under_way : IsUnderWay q s w place) (here : slice_get w.listed.pairs place ≡ Some e) where
  sets_here : IsIdSet s q.tests e.left × IsIdSet s q.tests e.right
  sets_here = under_way.listed.sets e (has_at w.listed.pairs place e here)

  pub left_terms : All (IsTermOf s w.diagrams.tests) e.left
  left_terms = subst (λ n. All (IsTermOf s n) e.left) (sym under_way.tests) (all_terms s q.tests e.left sets_here.0)

  pub right_terms : (t : NodeParts) (d : DiagramsParts) → Keeps s t w.diagrams d → All (IsTermOf t d.tests) e.right
  right_terms t d kept = subst (λ n. All (IsTermOf t n) e.right) (sym (kept.functions.tests ∙ under_way.tests)) (all_terms t q.tests e.right (set_kept s t kept.trees q.tests e.right sets_here.1))

  -- the steps of both sets, one after the other
  pub stepped : (t u : NodeParts) (c : DiagramsParts) (x : Worklist) (steps : BothSteps) → Keeps s t w.diagrams c → Keeps t u c x.diagrams → AreNodes u → x.listed ≡ record w.listed { count = length u.terms } → AreRight u x.diagrams x.derivatives
      → IsStepsOf t c (terms_of s e.left) steps.left → IsStepsOf u x.diagrams (terms_of t e.right) steps.right
      → IsUnderWay q u x place × AreStepsAt u x e steps × HasStepIds x steps
  stepped t u c x steps first second sound listed right left_steps right_steps =
      let sets = sets_here in
      let both = both_steps s t u w.diagrams c x.diagrams q.tests e.left e.right steps first second sets.0 sets.1 left_steps right_steps in
      let at : AreStepsAt u x e steps = record { left = both.0; right = both.1 } in (
        under_way_kept q s u (Grows-trans s t u first.trees second.trees) sound place w x (second.functions.tests ∙ first.functions.tests) listed right under_way,
        at,
        step_ids u x e steps at,
      )
