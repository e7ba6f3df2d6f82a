-- The loops that the finder has solved, by their places, when diagrams, notes and loops are added.
use Rattle.std.proofs.Common.{◌≡◌, ℕ, suc, ◌+◌, ◌<◌, List, [], ◌∷◌, ◌++◌, length, get_or, drop, Bool, true, false, cond, Option, Some, None, IfSome, refl, sym, ap, ◌∙◌, subst, arith, length-append}
use Rattle.std.specs.Map.{lookup}
use Rattle.indexmap.specs.IndexMap.{insert_entry}
use Rattle.kat_model.specs.Trees.{TestTree, Term, one}
use Rattle.kat_model.specs.Problems.{ProblemParts}
use Rattle.while_lang.specs.Flows.{FlowTree, branch, loop}
use Rattle.while_lang.specs.FlowViews.{flow_stmt, flows_tree}
use Rattle.while_lang.specs.declared.flow.Flow.{Flow}
use Rattle.outline_rules.specs.StepFunctions.{StepDiagramsParts, KeepsSteps}
use Rattle.hoare_outlines.specs.declared.finding.FoundLoop.{FoundLoop}
use Rattle.hoare_outlines.specs.declared.finding.Finder.{Finder}
use Rattle.hoare_outlines.specs.Working.Found.{HasAllowedSet}
use Rattle.hoare_outlines.specs.Working.FoundLoops.{turn_term, IsGrown, GrowsFrom, IsFoundLoop, HasLoopIds, AreFoundLoops, flow_turns, stmt_turns, AreTurnsFrom, KnowsLoops, KeepsLoops, LoopsSoFar}
use Rattle.hoare_outlines.proofs.SetIds.{set_kept}
use Rattle.hoare_outlines.proofs.FinderStates.{noted_kept}
use Rattle.hoare_outlines.proofs.FlowSteps.{first_left}
use Rattle.hoare_outlines.proofs.LoopPlaces.{turns_then, turns_parts, listed_turns}

-- ---- when diagrams are added

found_loop_kept : (q : ProblemParts) (old new : StepDiagramsParts) (turn : Term) (found : FoundLoop) → KeepsSteps old new → IsFoundLoop q old turn found → IsFoundLoop q new turn found
found_loop_kept q old new turn found kept is =
    record {
      entry = is.entry;
      is_entry = set_kept old new kept found.entry is.entry is.is_entry;
      invariant = is.invariant;
      is_invariant = set_kept old new kept found.invariant is.invariant is.is_invariant;
      grown = is.grown;
    }

found_loops_kept : (q : ProblemParts) (old new : StepDiagramsParts) (turns : ℕ → Term) (loops : List (ℕ × FoundLoop)) → KeepsSteps old new → AreFoundLoops q old turns loops → AreFoundLoops q new turns loops
found_loops_kept q old new turns [] kept are = tt
found_loops_kept q old new turns (entry ∷ loops) kept are = (found_loop_kept q old new (turns entry.0) entry.1 kept are.0, found_loops_kept q old new turns loops kept are.1)

pub loops_later : (q : ProblemParts) (old new : Finder) (turns : ℕ → Term) → KeepsSteps old.diagrams new.diagrams → new.loops.entries ≡ old.loops.entries → AreFoundLoops q old.diagrams turns old.loops.entries → AreFoundLoops q new.diagrams turns new.loops.entries
loops_later q old new turns kept same are = subst (λ (l : List (ℕ × FoundLoop)). AreFoundLoops q new.diagrams turns l) (sym same) (found_loops_kept q old.diagrams new.diagrams turns old.loops.entries kept are)

-- ---- by places

module _ (eq : ℕ → ℕ → Bool) (same : (x y : ℕ) → eq x y ≡ true → x ≡ y) where
  looked_up : (q : ProblemParts) (d : StepDiagramsParts) (turns : ℕ → Term) (loops : List (ℕ × FoundLoop)) (place : ℕ) (found : FoundLoop) → AreFoundLoops q d turns loops → lookup (eq place) loops ≡ Some found → IsFoundLoop q d (turns place) found
  looked_up q d turns [] place found are e = absurd cc
  looked_up q d turns (entry ∷ loops) place found are e = by_value (eq place entry.0) refl e (looked_up q d turns loops place found are.1)
    where
      by_value : (b : Bool) → eq place entry.0 ≡ b → cond b (Some entry.1) (lookup (eq place) loops) ≡ Some found → (lookup (eq place) loops ≡ Some found → IsFoundLoop q d (turns place) found) → IsFoundLoop q d (turns place) found
      by_value true p f later =
          let is : entry.1 ≡ found = cc in
          subst (λ n. IsFoundLoop q d (turns n) found) (sym (same place entry.0 p)) (subst (λ (x : FoundLoop). IsFoundLoop q d (turns entry.0) x) is are.0)
      by_value false p f later = later f

  pub found_earlier : (loops : List (ℕ × FoundLoop)) (place : ℕ) (found : Option FoundLoop) → found ≡ lookup (eq place) loops → IfSome found (λ x. (q : ProblemParts) (d : StepDiagramsParts) (turns : ℕ → Term) → AreFoundLoops q d turns loops → IsFoundLoop q d (turns place) x)
  found_earlier loops place None e = tt
  found_earlier loops place (Some x) e = λ q d turns are. looked_up q d turns loops place x are (sym e)

  pub loops_with : (q : ProblemParts) (d : StepDiagramsParts) (turns : ℕ → Term) (loops new : List (ℕ × FoundLoop)) (place : ℕ) (found : FoundLoop) → new ≡ insert_entry eq loops place found → AreFoundLoops q d turns loops → IsFoundLoop q d (turns place) found → AreFoundLoops q d turns new
  loops_with q d turns loops new place found e are own = subst (AreFoundLoops q d turns) (sym e) (more loops are)
    where
      more : (loops : List (ℕ × FoundLoop)) → AreFoundLoops q d turns loops → AreFoundLoops q d turns (insert_entry eq loops place found)
      more [] h = (own, tt)
      more (entry ∷ loops) h = by_value (eq place entry.0) refl (more loops h.1)
        where
          by_value : (b : Bool) → eq place entry.0 ≡ b → AreFoundLoops q d turns (insert_entry eq loops place found) → AreFoundLoops q d turns (cond b ((entry.0, found) ∷ loops) (entry ∷ insert_entry eq loops place found))
          by_value true p later = (subst (λ n. IsFoundLoop q d (turns n) found) (same place entry.0 p) own, h.1)
          by_value false p later = (h.0, later)

-- the stored result of a loop, if any, is for the turn of that loop
pub earlier_loop_found : (q : ProblemParts) (d : StepDiagramsParts) (turns : ℕ → Term) (turn : Term) (loops : List (ℕ × FoundLoop)) (place : ℕ) (found : Option FoundLoop)
    → IfSome found (λ x. (q : ProblemParts) (d : StepDiagramsParts) (turns : ℕ → Term) → AreFoundLoops q d turns loops → IsFoundLoop q d (turns place) x) → AreFoundLoops q d turns loops → turns place ≡ turn → IfSome found (IsFoundLoop q d turn)
earlier_loop_found q d turns turn loops place None each are e = tt
earlier_loop_found q d turns turn loops place (Some x) each are e = subst (λ (t : Term). IsFoundLoop q d t x) e (each q d turns are)

pub earlier_loop_ids : (q : ProblemParts) (d : StepDiagramsParts) (turn : Term) (found : Option FoundLoop) → IfSome found (IsFoundLoop q d turn) → IfSome found (HasLoopIds d)
earlier_loop_ids q d turn None is = tt
earlier_loop_ids q d turn (Some x) is = (is.is_entry.in_range, is.is_invariant.in_range)

-- ---- along a program

-- the turns after a place that has a note now
next_turns : (turns : ℕ → Term) (es : List Term) (old new : Finder) (set : ℕ) → new.notes.items ≡ old.notes.items ++ set ∷ [] → AreTurnsFrom turns (suc (length old.notes.items)) es → AreTurnsFrom turns (length new.notes.items) es
next_turns turns es old new set pushed at =
    let all : length new.notes.items ≡ length (old.notes.items ++ set ∷ []) = ap length pushed in
    let count : suc (length old.notes.items) ≡ length new.notes.items = omega (arith, all, length-append old.notes.items (set ∷ [])) in
    subst (λ n. AreTurnsFrom turns n es) count at

module _ (q : ProblemParts) where
  -- the first state: no loops are stored, and there are no notes
  pub no_loops : (es : List Term) (f : Finder) → f.notes.items ≡ [] → f.loops.entries ≡ [] → KnowsLoops q es f
  no_loops es f notes loops =
      let turns = λ (n : ℕ). get_or es n one in (
        turns,
        subst (λ (l : List ℕ). AreTurnsFrom turns (length l) es) (sym notes) (listed_turns es),
        subst (λ (l : List (ℕ × FoundLoop)). AreFoundLoops q f.diagrams turns l) (sym loops) tt,
      )

  module _ (items : List Flow) (entry : Finder) where
    pub loops_start : LoopsSoFar q items 0 entry entry
    loops_start = record { left = λ turns at. at; loops = λ turns at are. are }

    -- the turns of the next statement, and of the statements after it
    turns_left : (f : Finder) (i : ℕ) (s : Flow) → i < length items → s ≡ get_or items i s → LoopsSoFar q items i entry f → (turns : ℕ → Term) → AreTurnsFrom turns (length entry.notes.items) (flow_turns (flows_tree items))
        → AreTurnsFrom turns (length f.notes.items) (stmt_turns (flow_stmt s)) × AreTurnsFrom turns (length f.notes.items + length (stmt_turns (flow_stmt s))) (one ∷ flow_turns (flows_tree (drop (i + 1) items)))
    turns_left f i s lt is so_far turns at =
        let n : ℕ = length f.notes.items in
        let rest : FlowTree = flows_tree (drop (i + 1) items) in
        let all = subst (λ (t : FlowTree). AreTurnsFrom turns n (flow_turns t)) (first_left items i s lt is) (so_far.left turns at) in
        turns_parts turns (stmt_turns (flow_stmt s)) (one ∷ flow_turns rest) n (subst (λ (es : List Term). AreTurnsFrom turns n es) (turns_then (flow_stmt s) rest) all)

    pub stmt_known : (f : Finder) (i : ℕ) (s : Flow) → i < length items → s ≡ get_or items i s → LoopsSoFar q items i entry f → KnowsLoops q (flow_turns (flows_tree items)) entry → KnowsLoops q (stmt_turns (flow_stmt s)) f
    stmt_known f i s lt is so_far known = (known.0, (turns_left f i s lt is so_far known.0 known.1).0, so_far.loops known.0 known.1 known.2)

    pub loops_step : (f g h : Finder) (i next : ℕ) (s : Flow) → i < length items → s ≡ get_or items i s → LoopsSoFar q items i entry f → KeepsLoops q (stmt_turns (flow_stmt s)) f g → length g.notes.items ≡ length f.notes.items + length (stmt_turns (flow_stmt s))
        → h.notes.items ≡ g.notes.items ++ next ∷ [] → h.diagrams ≡ g.diagrams → h.loops.entries ≡ g.loops.entries → LoopsSoFar q items (i + 1) entry h
    loops_step f g h i next s lt is so_far keeps longer pushed diagrams loops =
        record {
          left = λ turns at.
              let all : length h.notes.items ≡ length (g.notes.items ++ next ∷ []) = ap length pushed in
              let count : suc (length f.notes.items + length (stmt_turns (flow_stmt s))) ≡ length h.notes.items = omega (arith, all, longer, length-append g.notes.items (next ∷ [])) in
              subst (λ n. AreTurnsFrom turns n (flow_turns (flows_tree (drop (i + 1) items)))) count (turns_left f i s lt is so_far turns at).1.1;
          loops = λ turns at are. loops_later q g h turns (noted_kept g h diagrams) loops (keeps turns (turns_left f i s lt is so_far turns at).0 (so_far.loops turns at are));
        }

  -- the first place of a list of statements has a note now
  pub first_noted : (es : List Term) (old new : Finder) (set : ℕ) → new.notes.items ≡ old.notes.items ++ set ∷ [] → new.diagrams ≡ old.diagrams → new.loops.entries ≡ old.loops.entries → KnowsLoops q (one ∷ es) old → KnowsLoops q es new
  first_noted es old new set pushed diagrams loops known = (known.0, next_turns known.0 es old new set pushed known.1.1, loops_later q old new known.0 (noted_kept old new diagrams) loops known.2)

  pub first_keeps : (es : List Term) (old new later : Finder) (set : ℕ) → new.notes.items ≡ old.notes.items ++ set ∷ [] → new.diagrams ≡ old.diagrams → new.loops.entries ≡ old.loops.entries → KeepsLoops q es new later → KeepsLoops q (one ∷ es) old later
  first_keeps es old new later set pushed diagrams loops keeps turns at are = keeps turns (next_turns turns es old new set pushed at.1) (loops_later q old new turns (noted_kept old new diagrams) loops are)

  -- ---- a branch

  module _ (b : TestTree) (f g : FlowTree) where
    first_turns : (turns : ℕ → Term) (old new : Finder) → new.notes.items ≡ old.notes.items → AreTurnsFrom turns (length old.notes.items) (stmt_turns (branch b f g)) → AreTurnsFrom turns (length new.notes.items) (one ∷ flow_turns f)
    first_turns turns old new notes at =
        subst (λ (l : List ℕ). AreTurnsFrom turns (length l) (one ∷ flow_turns f)) (sym notes) (turns_parts turns (one ∷ flow_turns f) (one ∷ flow_turns g) (length old.notes.items) at).0

    pub first_known : (old new : Finder) → new.notes.items ≡ old.notes.items → KeepsSteps old.diagrams new.diagrams → new.loops.entries ≡ old.loops.entries → KnowsLoops q (stmt_turns (branch b f g)) old → KnowsLoops q (one ∷ flow_turns f) new
    first_known old new notes kept loops known = (known.0, first_turns known.0 old new notes known.1, loops_later q old new known.0 kept loops known.2)

    module _ (old n1 n2 : Finder) (notes : n1.notes.items ≡ old.notes.items) (k1 : KeepsSteps old.diagrams n1.diagrams) (loops : n1.loops.entries ≡ old.loops.entries)
        (keeps_first : KeepsLoops q (one ∷ flow_turns f) n1 n2) (longer : length n2.notes.items ≡ length n1.notes.items + length (one ∷ flow_turns f)) where
      second_turns : (turns : ℕ → Term) → AreTurnsFrom turns (length old.notes.items) (stmt_turns (branch b f g)) → AreTurnsFrom turns (length n2.notes.items) (one ∷ flow_turns g)
      second_turns turns at =
          let same : length n1.notes.items ≡ length old.notes.items = ap length notes in
          let count : length old.notes.items + length (one ∷ flow_turns f) ≡ length n2.notes.items = omega (arith, longer, same) in
          subst (λ n. AreTurnsFrom turns n (one ∷ flow_turns g)) count (turns_parts turns (one ∷ flow_turns f) (one ∷ flow_turns g) (length old.notes.items) at).1

      after_first : (turns : ℕ → Term) → AreTurnsFrom turns (length old.notes.items) (stmt_turns (branch b f g)) → AreFoundLoops q old.diagrams turns old.loops.entries → AreFoundLoops q n2.diagrams turns n2.loops.entries
      after_first turns at are = keeps_first turns (first_turns turns old n1 notes at) (loops_later q old n1 turns k1 loops are)

      pub second_known : KnowsLoops q (stmt_turns (branch b f g)) old → KnowsLoops q (one ∷ flow_turns g) n2
      second_known known = (known.0, second_turns known.0 known.1, after_first known.0 known.1 known.2)

      pub branch_keeps : (n3 n4 : Finder) → KeepsLoops q (one ∷ flow_turns g) n2 n3 → KeepsSteps n3.diagrams n4.diagrams → n4.loops.entries ≡ n3.loops.entries → KeepsLoops q (stmt_turns (branch b f g)) old n4
      branch_keeps n3 n4 keeps_second k4 same turns at are = loops_later q n3 n4 turns k4 same (keeps_second turns (second_turns turns at) (after_first turns at are))

  -- ---- a loop

  module _ (b : TestTree) (f : FlowTree) (entry : Finder) where
    -- what an earlier turn of an outer loop stored for this loop
    pub earlier_known : (place : ℕ) (found : Option FoundLoop) → place ≡ length entry.notes.items → IfSome found (λ x. (q : ProblemParts) (d : StepDiagramsParts) (turns : ℕ → Term) → AreFoundLoops q d turns entry.loops.entries → IsFoundLoop q d (turns place) x)
        → KnowsLoops q (stmt_turns (loop b f)) entry → IfSome found (IsFoundLoop q entry.diagrams (turn_term b f))
    earlier_known place found count each known = earlier_loop_found q entry.diagrams known.0 (turn_term b f) entry.loops.entries place found each known.2 (ap known.0 count ∙ known.1.0)

    -- the invariant of the loop has a note now, and the body follows
    module _ (mid n2 : Finder) (invariant : ℕ) (so_far : KeepsLoops q (stmt_turns (loop b f)) entry mid) (k2 : KeepsSteps mid.diagrams n2.diagrams) (loops : n2.loops.entries ≡ mid.loops.entries) (noted : n2.notes.items ≡ entry.notes.items ++ invariant ∷ []) where
      body_turns : (turns : ℕ → Term) → AreTurnsFrom turns (length entry.notes.items) (stmt_turns (loop b f)) → AreTurnsFrom turns (length n2.notes.items) (one ∷ flow_turns f)
      body_turns turns at = next_turns turns (one ∷ flow_turns f) entry n2 invariant noted at.1

      before_body : (turns : ℕ → Term) → AreTurnsFrom turns (length entry.notes.items) (stmt_turns (loop b f)) → AreFoundLoops q entry.diagrams turns entry.loops.entries → AreFoundLoops q n2.diagrams turns n2.loops.entries
      before_body turns at are = loops_later q mid n2 turns k2 loops (so_far turns at are)

      pub body_known : KnowsLoops q (stmt_turns (loop b f)) entry → KnowsLoops q (one ∷ flow_turns f) n2
      body_known known = (known.0, body_turns known.0 known.1, before_body known.0 known.1 known.2)

      pub turn_keeps : (n3 n4 : Finder) → KeepsLoops q (one ∷ flow_turns f) n2 n3 → KeepsSteps n3.diagrams n4.diagrams → n4.loops.entries ≡ n3.loops.entries → KeepsLoops q (stmt_turns (loop b f)) entry n4
      turn_keeps n3 n4 keeps k4 same turns at are = loops_later q n3 n4 turns k4 same (keeps turns (body_turns turns at) (before_body turns at are))

    -- the new result of the loop is for its turn
    pub loop_is_found : (mid d : StepDiagramsParts) (set invariant place : ℕ) (turns : ℕ → Term) → KeepsSteps entry.diagrams d → KeepsSteps mid d → place ≡ length entry.notes.items → HasAllowedSet q entry.diagrams set → GrowsFrom q (turn_term b f) entry.diagrams set mid invariant
        → AreTurnsFrom turns (length entry.notes.items) (stmt_turns (loop b f)) → IsFoundLoop q d (turns place) (record { entry = set; invariant = invariant })
    loop_is_found mid d set invariant place turns k0 k count has grown at =
        let g = grown has.0 has.1 has.2 in
        record {
          entry = has.0;
          is_entry = set_kept entry.diagrams d k0 set has.0 has.1;
          invariant = g.0;
          is_invariant = set_kept mid d k invariant g.0 g.1;
          grown = subst (λ (t : Term). IsGrown q t has.0 g.0) (sym (ap turns count ∙ at.0)) g.2;
        }
