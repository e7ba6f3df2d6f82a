-- The invariants of a walk between the pairs that it processes.
use Rattle.std.specs.Prelude.{◌≡◌, ◌≢◌, ◌<◌, ℕ, length, slice_get, Some}
use Rattle.kat_model.specs.Steps.{Atom, set_out}
use Rattle.kat_model.specs.Problems.{ProblemParts}
use Rattle.term_nodes.specs.NodeLists.{NodeParts}
use Rattle.partial_derivs.specs.Tables.{AreRight}
use Rattle.partial_derivs.specs.Moves.{IsStepsOf, AreGuards, AreMerged}
use Rattle.walk_up_to.specs.Walks.{Entry, pairs_of, AreCongruentAfter}
use Rattle.term_nodes.specs.NumberSets.{terms_of}
use Rattle.walk_up_to.specs.Listings.{IdEntry, pair_of, entries_of}
use Rattle.walk_up_to.specs.Working.IdWalks.{AreListedOf}
use Rattle.walk_up_to.specs.declared.worklist.Worklist.{Worklist}
use Rattle.walk_pairs.specs.declared.found.BothSteps.{BothSteps}

-- the walk is over the store, and has processed the first `done` of its pairs
pub record IsUnderWay (q : ProblemParts) (store : NodeParts) (w : Worklist) (done : ℕ) : Type 0 where
  pub tests : w.diagrams.tests ≡ q.tests
  pub listed : AreListedOf q store w.listed done
  pub right : AreRight store w.diagrams w.derivatives

-- the steps are those of both sets of the pair
pub record AreStepsAt (store : NodeParts) (w : Worklist) (e : IdEntry) (steps : BothSteps) : Type 0 where
  pub left : IsStepsOf store w.diagrams (terms_of store e.left) steps.left
  pub right : IsStepsOf store w.diagrams (terms_of store e.right) steps.right

-- the guards of the moves are ids of diagrams, and no two moves of a side have the same action and target
pub record HasStepIds (w : Worklist) (steps : BothSteps) : Type 0 where
  pub left : AreGuards w.diagrams steps.left.moves.items
  pub right : AreGuards w.diagrams steps.right.moves.items
  pub left_merged : AreMerged steps.left.moves.items
  pub right_merged : AreMerged steps.right.moves.items

-- the walk remains under way, and has listed pairs under which the next sets of the pair at the place are congruent
abbrev pub IsExpanded : ProblemParts → NodeParts → Worklist → Worklist → ℕ → BothSteps → Type 0
IsExpanded q store old new place steps =
    (e : IdEntry) → IsUnderWay q store old place → slice_get old.listed.pairs place ≡ Some e → AreStepsAt store old e steps
    → IsUnderWay q store new place
    × ((a : ℕ) → a < q.actions → AreCongruentAfter q (pairs_of (entries_of store new.listed.pairs)) (pair_of store e) a)
    × (slice_get new.listed.pairs place ≡ Some e)

-- exactly one set of the pair at the place accepts the atom
pub record IsDifference (q : ProblemParts) (store : NodeParts) (w : Worklist) (place : ℕ) (atom : Atom) : Type 0 where
  pub entry : Entry
  pub at : slice_get (entries_of store w.listed.pairs) place ≡ Some entry
  pub fits : length atom ≡ q.tests
  pub differ : set_out entry.pair.left atom ≢ set_out entry.pair.right atom
