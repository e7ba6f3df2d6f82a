-- The start and the end of a walk over ids, and a bound on the number of its entries.
use Rattle.std.proofs.Common.{◌≡◌, ◌≤◌, ◌+◌, ⊎_elim, ℕ, List, [], ◌∷◌, length, None, refl, sym, ap, ◌∙◌, subst, arith}
use mathlib.Core.Path.{ap₂}
use Rattle.std.specs.Option.{option_map}
use Rattle.std.proofs.lemmas.List.{length-map}
use Rattle.std.proofs.lemmas.Option.{same_Some, slice_get_within}
use Rattle.kat_model.specs.Trees.{Term, acts}
use Rattle.kat_model.specs.Members.{Has}
use Rattle.kat_model.specs.Problems.{ProblemParts}
use Rattle.kat_model.specs.Closed.{closed}
use Rattle.term_nodes.specs.NodeLists.{NodeParts, AreNodes}
use Rattle.term_nodes.specs.NodeTrees.{tree_at}
use Rattle.term_nodes.specs.NumberSets.{terms_of}
use Rattle.test_diagrams.specs.Functions.{DiagramsParts, value_of}
use Rattle.partial_derivs.specs.Moves.{IsTermOf, Keeps}
use Rattle.partial_derivs.specs.Tables.{AreRight}
use Rattle.walk_under.specs.TestedWalks.{TestedEntry, IsTestedWalk}
use Rattle.walk_regions.specs.Entries.{EntryParts}
use Rattle.walk_regions.specs.Allowance.{IsAllowance}
use Rattle.walk_under.specs.Working.IdEntries.{entry_of, entries_of, IsIdEntry}
use Rattle.walk_pairs.specs.IdSets.{IsIdSet}
use Rattle.walk_under.specs.Working.Walking.{WalkContext, walk_context, IsUnderWay, first_ids, AreClosedIds, first_acts, walk_limit}
use Rattle.walk_under.specs.declared.walk.TestedWorklist.{TestedWorklist}
use Rattle.walk_pairs.specs.declared.closed.ClosedIds.{ClosedIds}
use Rattle.walk_under.proofs.WalkSteps.{first_entry, walk_starts}
use Rattle.walk_under.proofs.Few.{entry_limit, walk_few}
use Rattle.walk_regions.proofs.AllowedImages.{allowed_atom}
use Rattle.walk_pairs.proofs.ClosedTerms.{universal_kept}
use Rattle.partial_derivs.proofs.Kept.{IsTermOf-kept}

-- ---- the number of entries

limit_of : (s : WalkContext) (d : DiagramsParts) (es : List EntryParts) (done : ℕ) → d.tests ≡ s.problem.tests → IsTestedWalk s.shorts s.problem (entries_of s.store d es) done → walk_limit s.store d.tests es ≡ 1 + entry_limit s.problem
limit_of s d [] done tests walk = absurd (let e = walk.first in cc)
limit_of s d (e ∷ es) done tests walk =
    let same : entry_of s.store d e ≡ first_entry s.problem walk.start = same_Some (entry_of s.store d e) (first_entry s.problem walk.start) walk.first in
    let left : first_acts (terms_of s.store e.left) ≡ acts (closed s.problem).left = ap (λ (x : TestedEntry). first_acts x.pair.left) same in
    let right : first_acts (terms_of s.store e.right) ≡ acts (closed s.problem).right = ap (λ (x : TestedEntry). first_acts x.pair.right) same in
    rw (left, right, tests) refl

pub limit_is : (s : WalkContext) (w : TestedWorklist) (done : ℕ) → IsUnderWay s w done → walk_limit s.store w.diagrams.tests w.listing.entries.items ≡ 1 + entry_limit s.problem
limit_is s w done u = limit_of s w.diagrams w.listing.entries.items done u.tests u.walk

pub few_entries : (s : WalkContext) (w : TestedWorklist) (done : ℕ) → IsUnderWay s w done → length w.listing.entries.items ≤ 1 + entry_limit s.problem
few_entries s w done u =
    let few = walk_few s.shorts s.problem (entries_of s.store w.diagrams w.listing.entries.items) done u.walk in
    subst (λ n. n ≤ 1 + entry_limit s.problem) (length-map w.listing.entries.items (entry_of s.store w.diagrams)) few

-- ---- the end

-- if no entry is left, all are processed
walk_ended : (shorts : List Term) (q : ProblemParts) (es : List TestedEntry) (done : ℕ) → IsTestedWalk shorts q es done → length es ≤ done → IsTestedWalk shorts q es (length es)
walk_ended shorts q es done walk past = record {
  start = walk.start;
  everywhere = walk.everywhere;
  first = walk.first;
  origins = walk.origins;
  apart = walk.apart;
  in_order = walk.in_order;
  so_far = λ e f h at. absurd (let l = slice_get_within es (length es) f at in omega arith);
  taken = λ k e l at. walk.taken k e (omega arith) at;
}

pub all_taken : (s : WalkContext) (w : TestedWorklist) (place : ℕ) → IsUnderWay s w place → length w.listing.entries.items ≤ place → IsUnderWay s w (length w.listing.entries.items)
all_taken s w place u past = record {
  sound = u.sound;
  tests = u.tests;
  allowance = u.allowance;
  right = u.right;
  entries = u.entries;
  universal = u.universal;
  universal_id = u.universal_id;
  walk =
      let es = entries_of s.store w.diagrams w.listing.entries.items in
      let count = length-map w.listing.entries.items (entry_of s.store w.diagrams) in
      subst (IsTestedWalk s.shorts s.problem es) count (walk_ended s.shorts s.problem es place u.walk (subst (λ n. n ≤ place) (sym count) past));
}

-- ---- the start

module _ (shorts : List Term) (q : ProblemParts) (s t : NodeParts) (c : DiagramsParts) (w : TestedWorklist) (sides : ClosedIds) (kept : Keeps s t c w.diagrams) (tests : c.tests ≡ q.tests) (ids : AreClosedIds q s sides) where
  own_set : (i : ℕ) → IsTermOf s q.tests i → IsIdSet t w.diagrams.tests (i ∷ [])
  own_set i is = record {
    there = λ j h. ⊎_elim (λ e. subst (IsTermOf t w.diagrams.tests) e (IsTermOf-kept s t c w.diagrams kept i (subst (λ n. IsTermOf s n i) (sym tests) is))) (λ a. absurd a) h;
    ascending = refl;
  }

  pub walk_begun : IsAllowance w.diagrams shorts q.actions w.moves → AreRight t w.diagrams w.derivatives → AreNodes t → w.listing.entries.items ≡ first_ids sides w.moves.allowed ∷ [] → w.listing.universal ≡ sides.universal → IsUnderWay (walk_context shorts q t) w 0
  walk_begun allowance right sound entries universal = record {
    sound = sound;
    tests = kept.functions.tests ∙ tests;
    allowance = allowance;
    right = right;
    entries = λ e h. ⊎_elim (λ m. subst (IsIdEntry t w.diagrams w.moves.allowed) m own) (λ a. absurd a) (subst (λ (l : List EntryParts). Has l e) entries h);
    universal = ap (option_map (tree_at t)) universal ∙ universal_kept s t kept.trees sides.universal ids.universal_id ∙ ids.universal;
    universal_id = λ i e. kept.trees.term_numbers i (ids.universal_id i (sym universal ∙ e));
    walk =
        subst (λ (l : List EntryParts). IsTestedWalk shorts q (entries_of t w.diagrams l) 0) (sym entries)
        (subst (λ (l : List TestedEntry). IsTestedWalk shorts q l 0) trees_are
        (walk_starts shorts q (value_of w.diagrams w.moves.allowed) (λ atom wide h. allowed_atom w.diagrams shorts q.actions w.moves allowance atom (wide ∙ sym (kept.functions.tests ∙ tests)) h)));
  }
    where
      own : IsIdEntry t w.diagrams w.moves.allowed (first_ids sides w.moves.allowed)
      own = record { left = own_set sides.left ids.left_id; right = own_set sides.right ids.right_id; test = allowance.allowed.in_range; within = λ a fits h. h; region = λ o e. absurd cc }

      both : Term → Term → List TestedEntry
      both l r = record { pair = record { left = l ∷ []; right = r ∷ [] }; test = value_of w.diagrams w.moves.allowed; level = 0; origin = None } ∷ []

      trees_are : first_entry q (value_of w.diagrams w.moves.allowed) ∷ [] ≡ entries_of t w.diagrams (first_ids sides w.moves.allowed ∷ [])
      trees_are =
          ap₂ (λ l r. both l r)
          (sym (kept.trees.trees sides.left ids.left_id.is_id ∙ ids.left))
          (sym (kept.trees.trees sides.right ids.right_id.is_id ∙ ids.right))
