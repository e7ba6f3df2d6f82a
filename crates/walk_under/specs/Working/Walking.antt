-- The invariants of a walk while it processes its pairs.
use Rattle.std.specs.Prelude.{◌≡◌, ◌≢◌, ◌<◌, ◌+◌, ◌*◌, ◌^◌, ℕ, suc, List, [], ◌∷◌, ◌++◌, length, slice_get, Some, None, IsTrue, IsFalse}
use Rattle.std.specs.Option.{option_map}
use Rattle.kat_model.specs.Trees.{Term, acts}
use Rattle.kat_model.specs.Members.{Has, SameMembers}
use Rattle.kat_model.specs.Steps.{Atom, set_out, set_next}
use Rattle.kat_model.specs.Problems.{ProblemParts}
use Rattle.kat_model.specs.Closed.{closed}
use Rattle.kat_model.specs.AllowedMoves.{IsAllowedMove}
use Rattle.term_nodes.specs.NodeLists.{NodeParts, IsTerm, AreNodes}
use Rattle.term_nodes.specs.NodeTrees.{tree_at}
use Rattle.term_nodes.specs.NumberSets.{terms_of}
use Rattle.test_diagrams.specs.Functions.{DiagramsParts, value_of, IsDiagramId, IsAtomOf, KeepsFunctions}
use Rattle.partial_derivs.specs.Tables.{AreRight}
use Rattle.partial_derivs.specs.Moves.{IsTermOf, IsStepsOf}
use Rattle.walk_pairs.specs.Items.{chosen, AreItems}
use Rattle.walk_pairs.specs.declared.items.Item.{Item}
use Rattle.walk_pairs.specs.declared.items.Side.TheVariants.{Left, Right}
use Rattle.walk_under.specs.TestedWalks.{AreJoined, AreJoinedAfter, IsTestedWalk}
use Rattle.walk_regions.specs.Entries.{EntryParts}
use Rattle.walk_regions.specs.Allowance.{IsAllowance, IsWithin, HasAllowedSource}
use Rattle.walk_regions.specs.Listings.{AreLevelAtoms}
use Rattle.walk_under.specs.Working.IdEntries.{pair_of, entries_of, IsIdEntry, IsNextPart}
use Rattle.walk_regions.specs.declared.parts.Part.{Part}
use Rattle.walk_under.specs.declared.walk.TestedWorklist.{TestedWorklist}
use Rattle.walk_under.specs.declared.walk.StepSource.{StepSource}
use Rattle.walk_under.specs.declared.walk.TakenPair.{TakenPair}
use Rattle.walk_under.specs.declared.walk.RunEnd.{RunEnd}
use Rattle.walk_under.specs.declared.walk.RunEnd.TheVariants.{Ended, Found, Full}
use Rattle.walk_pairs.specs.declared.closed.ClosedIds.{ClosedIds}
use Rattle.walk_pairs.specs.declared.found.BothSteps.{BothSteps}

-- the context of a walk: the hypotheses that count as short, the problem with only the other hypotheses, and the store
-- of terms
pub record WalkContext : Type 0 where
  pub shorts : List Term
  pub problem : ProblemParts
  pub store : NodeParts

-- the walk is over the store, and has processed the first `done` of its pairs
pub record IsUnderWay (s : WalkContext) (w : TestedWorklist) (done : ℕ) : Type 0 where
  pub sound : AreNodes s.store
  pub tests : w.diagrams.tests ≡ s.problem.tests
  pub allowance : IsAllowance w.diagrams s.shorts s.problem.actions w.moves
  pub right : AreRight s.store w.diagrams w.derivatives
  pub entries : (e : EntryParts) → Has w.listing.entries.items e → IsIdEntry s.store w.diagrams w.moves.allowed e
  pub universal : option_map (tree_at s.store) w.listing.universal ≡ (closed s.problem).universal
  pub universal_id : (u : ℕ) → w.listing.universal ≡ Some u → IsTerm s.store u
  pub walk : IsTestedWalk s.shorts s.problem (entries_of s.store w.diagrams w.listing.entries.items) done

-- the walk processes the entry by the action, from all atoms at which the sets were reached by the same number of moves
pub record IsAtSource (s : WalkContext) (w : TestedWorklist) (source : StepSource) (from : EntryParts) : Type 0 where
  pub under_way : IsUnderWay s w source.place
  pub at : slice_get w.listing.entries.items source.place ≡ Some from
  pub level : source.level ≡ from.level
  pub atoms : AreLevelAtoms w.diagrams w.listing.entries.items from source.test
  pub of_actions : source.act < s.problem.actions

-- The walk has listed entries such that, after the allowed moves by the action from the start atoms, the next sets of
-- the entry are joined.
pub record IsVisited (s : WalkContext) (old new : TestedWorklist) (source : StepSource) (from : EntryParts) (IsStart : Atom → Type 0) : Type 0 where
  pub represents : IsAtSource s new source from
  pub kept : KeepsFunctions old.diagrams new.diagrams
  pub more : List EntryParts
  pub grows : new.listing.entries.items ≡ old.listing.entries.items ++ more
  pub joined : (atom : Atom) → length atom ≡ s.problem.tests → IsStart atom → (after : Atom) → length after ≡ s.problem.tests → IsAllowedMove s.shorts atom (record { act = source.act; atom = after })
      → AreJoined s.problem (entries_of s.store new.diagrams new.listing.entries.items) (suc from.level) after (set_next (terms_of s.store from.left) atom source.act) (set_next (terms_of s.store from.right) atom source.act)

-- The atoms to which the step leads from the part and at which the entries do not join the part's sets. No entry has
-- these sets at any of these atoms.
pub record IsOpenAt (s : WalkContext) (old new : TestedWorklist) (source : StepSource) (from : EntryParts) (p : Part) (id : ℕ) : Type 0 where
  pub represents : IsAtSource s new source from
  pub next : IsNextPart s.store new.diagrams from source.test source.act p
  pub kept : KeepsFunctions old.diagrams new.diagrams
  pub listing : new.listing ≡ old.listing
  pub is_id : IsDiagramId new.diagrams id
  pub within : IsWithin new.diagrams id new.moves.allowed
  pub apart : (e : EntryParts) → Has new.listing.entries.items e → e.left ≡ p.left.items → e.right ≡ p.right.items → (atom : Atom) → IsAtomOf new.diagrams atom → IsTrue (value_of new.diagrams id atom) → IsTrue (value_of new.diagrams e.test atom) → ⊥
  pub sources : (atom : Atom) → IsAtomOf new.diagrams atom → IsTrue (value_of new.diagrams id atom) → HasAllowedSource new.diagrams s.shorts p.region source.act atom
  pub joined : (atom : Atom) → IsAtomOf new.diagrams atom → HasAllowedSource new.diagrams s.shorts p.region source.act atom → IsFalse (value_of new.diagrams id atom)
      → AreJoined s.problem (entries_of s.store new.diagrams new.listing.entries.items) (suc from.level) atom (terms_of s.store p.left.items) (terms_of s.store p.right.items)

-- at each atom the items lead to the next sets by the action
pub record AreNextItems (s : WalkContext) (w : TestedWorklist) (source : StepSource) (from : EntryParts) (items : List Item) : Type 0 where
  pub are : AreItems w.diagrams items
  pub targets : (i : Item) → Has items i → IsTermOf s.store w.diagrams.tests i.target
  pub lefts : (atom : Atom) → IsAtomOf w.diagrams atom → SameMembers (set_next (terms_of s.store from.left) atom source.act) (terms_of s.store (chosen w.diagrams Left items atom))
  pub rights : (atom : Atom) → IsAtomOf w.diagrams atom → SameMembers (set_next (terms_of s.store from.right) atom source.act) (terms_of s.store (chosen w.diagrams Right items atom))

-- the entry of the part's sets, at the atoms of the test
abbrev pub new_ids : StepSource → Part → ℕ → EntryParts
new_ids source p test = record {
  left = p.left.items;
  right = p.right.items;
  test = test;
  level = source.level + 1;
  origin = Some (record { place = source.place; act = source.act; region = p.region });
}

-- the context of a walk over the store
abbrev pub walk_context : List Term → ProblemParts → NodeParts → WalkContext
walk_context shorts q store = record { shorts = shorts; problem = q; store = store }

-- the walk processes the entry at the place, and these are the steps of its sets
pub record IsTaking (s : WalkContext) (w : TestedWorklist) (place : ℕ) (from : EntryParts) (steps : BothSteps) : Type 0 where
  pub under_way : IsUnderWay s w place
  pub at : slice_get w.listing.entries.items place ≡ Some from
  pub left : IsStepsOf s.store w.diagrams (terms_of s.store from.left) steps.left
  pub right : IsStepsOf s.store w.diagrams (terms_of s.store from.right) steps.right

-- the level of the entry that is processed, and the atoms at which its sets were reached by that number of moves
pub record IsTakenPair (w : TestedWorklist) (t : TakenPair) (from : EntryParts) : Type 0 where
  pub level : t.level ≡ from.level
  pub atoms : AreLevelAtoms w.diagrams w.listing.entries.items from t.test

-- the walk has listed entries such that, after the allowed moves by the actions, the next sets of the entry are joined
pub record HasStepped (s : WalkContext) (old new : TestedWorklist) (t : TakenPair) (from : EntryParts) (acts : List ℕ) : Type 0 where
  pub under_way : IsUnderWay s new t.place
  pub at : slice_get new.listing.entries.items t.place ≡ Some from
  pub taken_pair : IsTakenPair new t from
  pub kept : KeepsFunctions old.diagrams new.diagrams
  pub joined : (a : ℕ) → Has acts a → AreJoinedAfter s.shorts s.problem (entries_of s.store new.diagrams new.listing.entries.items) (suc from.level) (pair_of s.store from) (value_of old.diagrams t.test) a

-- at an atom of its test, exactly one set of the entry at the place accepts
pub record IsDifference (s : WalkContext) (w : TestedWorklist) (place : ℕ) (atom : Atom) : Type 0 where
  pub from : EntryParts
  pub at : slice_get w.listing.entries.items place ≡ Some from
  pub fits : IsAtomOf w.diagrams atom
  pub there : IsTrue (value_of w.diagrams from.test atom)
  pub differ : set_out (terms_of s.store from.left) atom ≢ set_out (terms_of s.store from.right) atom

-- at an atom of the test, exactly one of the steps accepts
pub record Distinguish (d : DiagramsParts) (test : ℕ) (steps : BothSteps) (atom : Atom) : Type 0 where
  pub fits : IsAtomOf d atom
  pub there : IsTrue (value_of d test atom)
  pub differ : value_of d steps.left.accepts atom ≢ value_of d steps.right.accepts atom

-- at each atom of the test, both steps accept or neither does
abbrev pub AcceptAlike : DiagramsParts → ℕ → BothSteps → Type 0
AcceptAlike d test steps = (atom : Atom) → IsAtomOf d atom → IsTrue (value_of d test atom) → value_of d steps.left.accepts atom ≡ value_of d steps.right.accepts atom

-- the number of actions of the first term
abbrev pub first_acts : List Term → ℕ
first_acts [] = 0
first_acts (e ∷ es) = acts e

-- a bound on the number of entries of a walk that begins with these, over this number of tests
abbrev pub walk_limit : NodeParts → ℕ → List EntryParts → ℕ
walk_limit store tests [] = 0
walk_limit store tests (e ∷ es) = 1 + 2 ^ (first_acts (terms_of store e.left) + 1) * 2 ^ (first_acts (terms_of store e.right) + 1) * 2 ^ tests

-- the entry of the closed sides
abbrev pub first_ids : ClosedIds → ℕ → EntryParts
first_ids sides test = record { left = sides.left ∷ []; right = sides.right ∷ []; test = test; level = 0; origin = None }

-- the ids of the closed sides of the problem and of its universal term
pub record AreClosedIds (q : ProblemParts) (store : NodeParts) (sides : ClosedIds) : Type 0 where
  pub sound : AreNodes store
  pub left_id : IsTermOf store q.tests sides.left
  pub right_id : IsTermOf store q.tests sides.right
  pub left : tree_at store sides.left ≡ (closed q).left
  pub right : tree_at store sides.right ≡ (closed q).right
  pub universal_id : (u : ℕ) → sides.universal ≡ Some u → IsTerm store u
  pub universal : option_map (tree_at store) sides.universal ≡ (closed q).universal

-- The end of a run: all pairs are processed, the sets of a pair do not accept alike, or the walk stopped at its limit
-- after some of its pairs.
abbrev pub IsRunEnd : WalkContext → TestedWorklist → RunEnd → Type 0
IsRunEnd s w Ended = IsUnderWay s w (length w.listing.entries.items)
IsRunEnd s w (Found d) = IsUnderWay s w d.place × IsDifference s w d.place d.atom.items × IsDiagramId w.diagrams d.region
IsRunEnd s w Full = (place : ℕ) × IsUnderWay s w place
