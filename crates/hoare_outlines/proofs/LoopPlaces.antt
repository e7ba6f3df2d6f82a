-- The places of a program at which invariants are: the turns of the loops there, and the number of places as the number
-- of notes.
use Rattle.std.proofs.Common.{◌≡◌, ℕ, suc, ◌+◌, List, [], ◌∷◌, ◌++◌, length, get_or, refl, ap, ◌∙◌, subst, arith, length-append}
use Rattle.kat_model.specs.Trees.{Term, one}
use Rattle.kat_model.specs.Problems.{ProblemParts}
use Rattle.while_lang.specs.Flows.{FlowTree, FlowStmt, empty, skip_then, abort_then, assert_then, act_then, branch_then, loop_then, skip, abort, assert, act, branch, loop, with_stmt}
use Rattle.hoare_outlines.specs.declared.finding.Finder.{Finder}
use Rattle.hoare_outlines.specs.Working.AtomSets.{AtomSet}
use Rattle.hoare_outlines.specs.Working.Annotated.{Annotated, StmtAnnotated}
use Rattle.hoare_outlines.specs.Working.Found.{StmtFound, FlowFound, HasAllowedSet, FindsStmt, FindsFlow}
use Rattle.hoare_outlines.specs.Working.FoundLoops.{turn_term, flow_turns, stmt_turns, AreTurnsFrom}
use Rattle.hoare_outlines.proofs.SetIds.{sets_count}

-- ---- the turns at places

-- the turns of a statement, then those of the other statements
pub turns_then : (s : FlowStmt) (rest : FlowTree) → flow_turns (with_stmt s rest) ≡ stmt_turns s ++ one ∷ flow_turns rest
turns_then skip rest = refl
turns_then abort rest = refl
turns_then (assert b) rest = refl
turns_then (act a) rest = refl
turns_then (branch b f g) rest = refl
turns_then (loop b f) rest = refl

module _ (turns : ℕ → Term) where
  pub turns_parts : (es fs : List Term) (n : ℕ) → AreTurnsFrom turns n (es ++ fs) → AreTurnsFrom turns n es × AreTurnsFrom turns (n + length es) fs
  turns_parts [] fs n at = (tt, subst (λ m. AreTurnsFrom turns m fs) (omega arith) at)
  turns_parts (e ∷ es) fs n at =
      let rest = turns_parts es fs (suc n) at.1 in
      let next : suc n + length es ≡ n + length (e ∷ es) = omega arith in
      ((at.0, rest.0), subst (λ m. AreTurnsFrom turns m fs) next rest.1)

  turns_listed : (es : List Term) (n : ℕ) → ((i : ℕ) → turns (n + i) ≡ get_or es i one) → AreTurnsFrom turns n es
  turns_listed [] n each = tt
  turns_listed (e ∷ es) n each = (
    let here : n ≡ n + 0 = omega arith in ap turns here ∙ each 0,
    turns_listed es (suc n) (λ i. let next : suc n + i ≡ n + suc i = omega arith in ap turns next ∙ each (suc i)),
  )

-- the terms of a list are the turns of the first places
pub listed_turns : (es : List Term) → AreTurnsFrom (λ n. get_or es n one) 0 es
listed_turns es = turns_listed (λ n. get_or es n one) es 0 (λ i. let own : 0 + i ≡ i = omega arith in ap (λ n. get_or es n one) own)

-- ---- the number of places

then_count : (inner more sets : List AtomSet) (next : AtomSet) (es fs : List Term) → sets ≡ inner ++ next ∷ more → length inner ≡ length es → length more ≡ length fs → length sets ≡ length (es ++ one ∷ fs)
then_count inner more sets next es fs all here later =
    let count : length sets ≡ length (inner ++ next ∷ more) = ap length all in
    omega (arith, count, here, later, length-append inner (next ∷ more), length-append es (one ∷ fs))

branch_count : (inner firsts seconds : List AtomSet) (first second : AtomSet) (es fs : List Term) → inner ≡ first ∷ (firsts ++ second ∷ seconds) → length firsts ≡ length es → length seconds ≡ length fs → length inner ≡ length (one ∷ (es ++ one ∷ fs))
branch_count inner firsts seconds first second es fs within left right = ap length within ∙ ap suc (then_count firsts seconds (firsts ++ second ∷ seconds) second es fs refl left right)

loop_count : (inner bodies : List AtomSet) (invariant body : AtomSet) (e : Term) (es : List Term) → inner ≡ invariant ∷ body ∷ bodies → length bodies ≡ length es → length inner ≡ length (e ∷ one ∷ es)
loop_count inner bodies invariant body e es within rest = ap length within ∙ ap (λ n. suc (suc n)) rest

module _ (q : ProblemParts) where
  annotated_count : (f : FlowTree) (X : AtomSet) (sets : List AtomSet) (Y : AtomSet) → Annotated q f X sets Y → length sets ≡ length (flow_turns f)
  annotated_count empty X sets Y h = ap length h.0
  annotated_count (skip_then rest) X sets Y h = then_count h.inner h.more sets h.next [] (flow_turns rest) h.all (ap length h.stmt.0) (annotated_count rest h.next h.more Y h.rest)
  annotated_count (abort_then rest) X sets Y h = then_count h.inner h.more sets h.next [] (flow_turns rest) h.all (ap length h.stmt.0) (annotated_count rest h.next h.more Y h.rest)
  annotated_count (assert_then b rest) X sets Y h = then_count h.inner h.more sets h.next [] (flow_turns rest) h.all (ap length h.stmt.0) (annotated_count rest h.next h.more Y h.rest)
  annotated_count (act_then a rest) X sets Y h = then_count h.inner h.more sets h.next [] (flow_turns rest) h.all (ap length h.stmt.0) (annotated_count rest h.next h.more Y h.rest)
  annotated_count (branch_then b f g rest) X sets Y h =
      let s = h.stmt in
      let left = annotated_count f s.first s.firsts s.first_end s.runs_first in
      let right = annotated_count g s.second s.seconds s.second_end s.runs_second in
      then_count h.inner h.more sets h.next (stmt_turns (branch b f g)) (flow_turns rest) h.all
      (branch_count h.inner s.firsts s.seconds s.first s.second (flow_turns f) (flow_turns g) s.within left right)
      (annotated_count rest h.next h.more Y h.rest)
  annotated_count (loop_then b f rest) X sets Y h =
      let s = h.stmt in
      then_count h.inner h.more sets h.next (stmt_turns (loop b f)) (flow_turns rest) h.all
      (loop_count h.inner s.bodies s.invariant s.body (turn_term b f) (flow_turns f) s.within (annotated_count f s.body s.bodies s.body_end s.runs))
      (annotated_count rest h.next h.more Y h.rest)

  stmt_count : (s : FlowStmt) (X : AtomSet) (inner : List AtomSet) (Z : AtomSet) → StmtAnnotated q s X inner Z → length inner ≡ length (stmt_turns s)
  stmt_count skip X inner Z h = ap length h.0
  stmt_count abort X inner Z h = ap length h.0
  stmt_count (assert b) X inner Z h = ap length h.0
  stmt_count (act a) X inner Z h = ap length h.0
  stmt_count (branch b f g) X inner Z h =
      branch_count inner h.firsts h.seconds h.first h.second (flow_turns f) (flow_turns g) h.within
      (annotated_count f h.first h.firsts h.first_end h.runs_first)
      (annotated_count g h.second h.seconds h.second_end h.runs_second)
  stmt_count (loop b f) X inner Z h = loop_count inner h.bodies h.invariant h.body (turn_term b f) (flow_turns f) h.within (annotated_count f h.body h.bodies h.body_end h.runs)

  -- the finder adds a note for each place
  pub stmt_longer : (s : FlowStmt) (old new : Finder) (set last : ℕ) → HasAllowedSet q old.diagrams set → FindsStmt q s old set new last → length new.notes.items ≡ length old.notes.items + length (stmt_turns s)
  stmt_longer s old new set last has finds =
      let r = finds has.0 has.1 has.2 in
      let found : StmtFound q s new.diagrams has.0 r.0 last = r.2 in
      let all : length new.notes.items ≡ length (old.notes.items ++ r.0) = ap length r.1 in
      let count : length r.0 ≡ length (stmt_turns s) = sets_count new.diagrams r.0 found.sets found.are_sets ∙ stmt_count s has.0 found.sets found.end found.annotated in
      omega (arith, all, count, length-append old.notes.items r.0)

  pub flow_longer : (f : FlowTree) (old new : Finder) (set last : ℕ) → HasAllowedSet q old.diagrams set → FindsFlow q f old set new last → length new.notes.items ≡ length old.notes.items + length (one ∷ flow_turns f)
  flow_longer f old new set last has finds =
      let r = finds has.0 has.1 has.2 in
      let found : FlowFound q f new.diagrams has.0 r.0 last = r.2 in
      let all : length new.notes.items ≡ length (old.notes.items ++ set ∷ r.0) = ap length r.1 in
      let count : length r.0 ≡ length (flow_turns f) = sets_count new.diagrams r.0 found.sets found.are_sets ∙ annotated_count f has.0 found.sets found.end found.annotated in
      omega (arith, all, count, length-append old.notes.items (set ∷ r.0))
