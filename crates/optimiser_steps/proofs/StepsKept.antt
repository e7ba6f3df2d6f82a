-- Each step takes a list of statements to a list that relates the same states.
use Rattle.std.proofs.Common.{◌≡◌, ℕ, zero, suc, inl, inr, ⊎_elim, List, [], ◌∷◌, ◌++◌, take, drop, Some, refl, sym, ap, ◌∙◌, subst, true, false}
use Rattle.std.proofs.lemmas.List.{take-append-drop}
use Rattle.std.proofs.lemmas.Bool.{cases_Bool, not-true, not_from_false}
use Rattle.std.proofs.lemmas.Option.{same_Some}
use Rattle.kat_model.specs.Expressions.{CondTree, always, negation}
use Rattle.kat_model.specs.Relations.{Along}
use Rattle.while_lang.specs.Files.{FileParts}
use Rattle.while_lang.specs.Ranges.{IsCondInRange, IsProgInRange}
use Rattle.while_lang.specs.Programs.{ProgTree, empty, branch_then, loop_then, StmtTree, skip, abort, assert, branch, loop, prog_of, stmts_of}
use Rattle.optimiser_steps.specs.Validity.{IsValid, HoldsAlways, HoldsNever}
use Rattle.optimiser_steps.specs.Statements.{block, with_block, single, IsStmtInRange, AreStmtsInRange}
use Rattle.optimiser_steps.specs.Paths.{StepsAt}
use Rattle.optimiser_steps.specs.Steps.{LeavesOutSkip, LeavesOutUnreached, LeavesOutAssert, TakesFirstBlock, TakesSecondBlock, LeavesOutLoop, TakesEitherBlock, SharesLastStatement, TakesFirstBlockAfter, TakesSecondBlockAfter, UnswitchesLoop, FlattensLoop, step_relations, Step}
use Rattle.optimiser_steps.proofs.NumberedSteps.{SomeHolds, some_holds}
use Rattle.optimiser_steps.proofs.RangesKept.{single_in, stmts_in, drop_in, block_in}
use Rattle.optimiser_steps.proofs.Machines.{Machine, Then, Stays, Passes, Where, Chooses, Repeats, Leads, Does, Follow, AlikeAt, Alike, at_through, same, back, through, then_at, then_alike, then_after, then_assoc, stays_then_at, stays_then, then_stays, never_then, chooses_alike, along_kept, repeats_alike, along_none, follow_append, follow_front, leads_follow, leads-prog_of, leads-single, follow_leads}

module _ {S : Type 0} (m : Machine S) where
  -- ---- choices and loops

  -- a choice whose condition holds, and one whose condition fails
  chooses_first : (i : S) (b : CondTree) (R Q : S → S → Type 0) → m.holds b i ≡ true → AlikeAt m i (Chooses m b R Q) R
  chooses_first i b R Q h j sj = (
    (λ r. ⊎_elim {C = R i j} (λ x. x.1) (λ x. let fails : m.holds b i ≡ false = x.0 in absurd cc) r),
    (λ r. inl (h, r)),
  )

  chooses_second : (i : S) (b : CondTree) (R Q : S → S → Type 0) → m.holds b i ≡ false → AlikeAt m i (Chooses m b R Q) Q
  chooses_second i b R Q h j sj = (
    (λ r. ⊎_elim {C = Q i j} (λ x. let holds : m.holds b i ≡ true = x.0 in absurd cc) (λ x. x.1) r),
    (λ r. inr (h, r)),
  )

  -- a choice between equal relations
  chooses_same : (b : CondTree) (R : S → S → Type 0) → Alike m (Chooses m b R R) R
  chooses_same b R i si =
      ⊎_elim {C = AlikeAt m i (Chooses m b R R) R} (chooses_first i b R R) (chooses_second i b R R) (cases_Bool (m.holds b i))

  -- a common end of both relations may come after the choice
  chooses_then : (b : CondTree) (R Q P : S → S → Type 0) → Alike m (Chooses m b (Then m R P) (Then m Q P)) (Then m (Chooses m b R Q) P)
  chooses_then b R Q P i si j sj = (
    (λ r. ⊎_elim {C = Then m (Chooses m b R Q) P i j} (λ x. (x.1.0, x.1.1, inl (x.0, x.1.2), x.1.3)) (λ x. (x.1.0, x.1.1, inr (x.0, x.1.2), x.1.3)) r),
    (λ r. ⊎_elim {C = Chooses m b (Then m R P) (Then m Q P) i j} (λ x. inl (x.0, (r.0, r.1, x.1, r.3))) (λ x. inr (x.0, (r.0, r.1, x.1, r.3))) r.2),
  )

  -- a common last statement of both blocks may come after the choice
  taken_out : (b : CondTree) (P Q P' Q' R F : S → S → Type 0) → Alike m P (Then m P' R) → Alike m Q (Then m Q' R) →
      Alike m (Then m (Chooses m b P Q) F) (Then m (Chooses m b P' Q') (Then m R F))
  taken_out b P Q P' Q' R F p q =
      through m (Then m (Chooses m b P Q) F) (Then m (Then m (Chooses m b P' Q') R) F) (Then m (Chooses m b P' Q') (Then m R F))
      (then_alike m (Chooses m b P Q) (Then m (Chooses m b P' Q') R) F F
      (through m (Chooses m b P Q) (Chooses m b (Then m P' R) (Then m Q' R)) (Then m (Chooses m b P' Q') R) (chooses_alike m b P (Then m P' R) Q (Then m Q' R) p q) (chooses_then b P' Q' R))
      (same m F))
      (then_assoc m (Chooses m b P' Q') R F)

  -- a loop whose condition fails
  repeats_none : (i : S) (b : CondTree) (R : S → S → Type 0) → m.holds b i ≡ false → AlikeAt m i (Repeats m b R) (Stays m)
  repeats_none i b R h j sj = (
    (λ r. along_none m b R r.0 i j h r.1),
    (λ e. ([], e, ap (m.holds b) (sym e) ∙ h)),
  )

  -- a loop over a choice on a condition that the loop does not change
  module _ (b c : CondTree) (R Q : S → S → Type 0)
      (keeps : (i k : S) → m.IsState i → m.IsState k → m.holds c i ≡ true → R i k → m.holds c k ≡ true)
      (keeps_not : (i k : S) → m.IsState i → m.IsState k → m.holds c i ≡ false → Q i k → m.holds c k ≡ false) where
    abbrev Turn : S → S → Type 0
    Turn = Where m b true (Chooses m c R Q)

    first_turn : (i k : S) → m.IsState i → m.IsState k → m.holds c i ≡ true → Turn i k → Where m b true R i k × (m.holds c k ≡ true)
    first_turn i k si sk h t = let r = (chooses_first i c R Q h k sk).0 t.1 in ((t.0, r), keeps i k si sk h r)

    turn_first : (i k : S) → m.IsState i → m.IsState k → m.holds c i ≡ true → Where m b true R i k → Turn i k × (m.holds c k ≡ true)
    turn_first i k si sk h t = ((t.0, inl (h, t.1)), keeps i k si sk h t.1)

    second_turn : (i k : S) → m.IsState i → m.IsState k → m.holds c i ≡ false → Turn i k → Where m b true Q i k × (m.holds c k ≡ false)
    second_turn i k si sk h t = let r = (chooses_second i c R Q h k sk).0 t.1 in ((t.0, r), keeps_not i k si sk h r)

    turn_second : (i k : S) → m.IsState i → m.IsState k → m.holds c i ≡ false → Where m b true Q i k → Turn i k × (m.holds c k ≡ false)
    turn_second i k si sk h t = ((t.0, inr (h, t.1)), keeps_not i k si sk h t.1)

    repeats_first : (i : S) → m.IsState i → m.holds c i ≡ true → AlikeAt m i (Repeats m b (Chooses m c R Q)) (Repeats m b R)
    repeats_first i si h j sj = (
      (λ r. (r.0, along_kept m (λ s. m.holds c s ≡ true) Turn (Where m b true R) first_turn r.0 i j si h r.1, r.2)),
      (λ r. (r.0, along_kept m (λ s. m.holds c s ≡ true) (Where m b true R) Turn turn_first r.0 i j si h r.1, r.2)),
    )

    repeats_second : (i : S) → m.IsState i → m.holds c i ≡ false → AlikeAt m i (Repeats m b (Chooses m c R Q)) (Repeats m b Q)
    repeats_second i si h j sj = (
      (λ r. (r.0, along_kept m (λ s. m.holds c s ≡ false) Turn (Where m b true Q) second_turn r.0 i j si h r.1, r.2)),
      (λ r. (r.0, along_kept m (λ s. m.holds c s ≡ false) (Where m b true Q) Turn turn_second r.0 i j si h r.1, r.2)),
    )

    repeats_chooses : Alike m (Repeats m b (Chooses m c R Q)) (Chooses m c (Repeats m b R) (Repeats m b Q))
    repeats_chooses i si =
        ⊎_elim {C = AlikeAt m i (Repeats m b (Chooses m c R Q)) (Chooses m c (Repeats m b R) (Repeats m b Q))}
        (λ h. at_through m i (Repeats m b (Chooses m c R Q)) (Repeats m b R) (Chooses m c (Repeats m b R) (Repeats m b Q)) (repeats_first i si h)
        (λ j sj. let c = chooses_first i c (Repeats m b R) (Repeats m b Q) h j sj in (c.1, c.0)))
        (λ h. at_through m i (Repeats m b (Chooses m c R Q)) (Repeats m b Q) (Chooses m c (Repeats m b R) (Repeats m b Q)) (repeats_second i si h)
        (λ j sj. let c = chooses_second i c (Repeats m b R) (Repeats m b Q) h j sj in (c.1, c.0)))
        (cases_Bool (m.holds c i))

  -- a loop over a loop on the same condition
  repeats_repeats : (b : CondTree) (R : S → S → Type 0) → Alike m (Repeats m b (Repeats m b R)) (Repeats m b R)
  repeats_repeats b R i si j sj = ((λ r. there r.0 r.1 r.2), (λ r. back_again r.0 r.1 r.2))
    where
      there : (ks : List S) → Along m.IsState (Where m b true (Repeats m b R)) i ks j → m.holds b j ≡ false → Repeats m b R i j
      there [] a h = ([], a, h)
      there (k ∷ ks) a h =
          let turns = a.1.1 in
          let last : k ≡ j = along_none m b (Repeats m b R) ks k j turns.2 a.2 in
          (turns.0, subst (λ s. Along m.IsState (Where m b true R) i turns.0 s) last turns.1, h)

      back_again : (ks : List S) → Along m.IsState (Where m b true R) i ks j → m.holds b j ≡ false → Repeats m b (Repeats m b R) i j
      back_again [] a h = ([], a, h)
      back_again (k ∷ ks) a h = (j ∷ [], (sj, (a.1.0, (k ∷ ks, a, h)), refl), h)

  -- a loop over a choice on the same condition
  repeats_chosen : (b : CondTree) (R Q : S → S → Type 0) → Alike m (Repeats m b (Chooses m b R Q)) (Repeats m b R)
  repeats_chosen b R Q i si j sj = (
    (λ r. (r.0, along_kept m (λ s. Unit {0}) (Where m b true (Chooses m b R Q)) (Where m b true R) (λ l k sl sk u t. ((t.0, (chooses_first l b R Q t.0 k sk).0 t.1), tt)) r.0 i j si tt r.1, r.2)),
    (λ r. (r.0, along_kept m (λ s. Unit {0}) (Where m b true R) (Where m b true (Chooses m b R Q)) (λ l k sl sk u t. ((t.0, inl (t.0, t.1)), tt)) r.0 i j si tt r.1, r.2)),
  )

  -- a block replaces a statement that does the same
  block_at : (i : S) (R : S → S → Type 0) (p : ProgTree) (rest : List StmtTree) → m.IsState i → AlikeAt m i R (Leads m p) → AlikeAt m i (Then m R (Follow m rest)) (Follow m (stmts_of p ++ rest))
  block_at i R p rest si a =
      at_through m i (Then m R (Follow m rest)) (Then m (Follow m (stmts_of p)) (Follow m rest)) (Follow m (stmts_of p ++ rest))
      (then_at m i R (Follow m (stmts_of p)) (Follow m rest) (Follow m rest) (at_through m i R (Leads m p) (Follow m (stmts_of p)) a (leads_follow m p i si)) (same m (Follow m rest)))
      (back m (Follow m (stmts_of p ++ rest)) (Then m (Follow m (stmts_of p)) (Follow m rest)) (follow_append m (stmts_of p) rest) i si)

-- ---- steps

-- from states in which the first condition holds, the program leads only to states in which the second holds
abbrev pub Meets : {S : Type 0} → Machine S → CondTree → ProgTree → CondTree → Type 0
Meets {S} m b p c = (i j : S) → m.IsState i → m.IsState j → m.holds b i ≡ true → Leads m p i j → m.holds c j ≡ true

-- the machine meets every valid triple
abbrev pub MeetsValid : {S : Type 0} → FileParts → Machine S → Type 0
MeetsValid f m =
    (b : CondTree) (p : ProgTree) (c : CondTree) → IsCondInRange f.tests f.vars b → IsProgInRange f.tests f.actions f.vars p → IsCondInRange f.tests f.vars c
    → IsValid f b p c → Meets m b p c

module _ {S : Type 0} (f : FileParts) (m : Machine S) (meets : MeetsValid f m) where
  holds_everywhere : (b : CondTree) → IsCondInRange f.tests f.vars b → HoldsAlways f b → (i : S) → m.IsState i → m.holds b i ≡ true
  holds_everywhere b range v i si = meets always empty b tt tt range v i i si si (m.of_always i) refl

  fails_everywhere : (b : CondTree) → IsCondInRange f.tests f.vars b → HoldsNever f b → (i : S) → m.IsState i → m.holds b i ≡ false
  fails_everywhere b range v i si = not-true (m.holds b i) (sym (m.of_negation b i) ∙ holds_everywhere (negation b) range v i si)

  holds_after : (s : StmtTree) (c : CondTree) → IsStmtInRange f s → IsCondInRange f.tests f.vars c → IsValid f always (single s) c → (i k : S) → m.IsState i → m.IsState k → Does m s i k → m.holds c k ≡ true
  holds_after s c range in_c v i k si sk d = meets always (single s) c tt (single_in f s range) in_c v i k si sk (m.of_always i) ((leads-single m s i si k sk).1 d)

  fails_after : (s : StmtTree) (c : CondTree) → IsStmtInRange f s → IsCondInRange f.tests f.vars c → IsValid f always (single s) (negation c) → (i k : S) → m.IsState i → m.IsState k → Does m s i k → m.holds c k ≡ false
  fails_after s c range in_c v i k si sk d = not-true (m.holds c k) (sym (m.of_negation c k) ∙ holds_after s (negation c) range in_c v i k si sk d)

  skip_kept : (ss ts : List StmtTree) → LeavesOutSkip ss ts → Alike m (Follow m ss) (Follow m ts)
  skip_kept (skip ∷ rest) ts e = rw e (stays_then m (Follow m rest))
  skip_kept _ ts e = absurd e

  unreached_kept : (ss ts : List StmtTree) → LeavesOutUnreached ss ts → Alike m (Follow m ss) (Follow m ts)
  unreached_kept (abort ∷ s ∷ rest) ts e = rw e (never_then m (Follow m (s ∷ rest)) (Follow m rest))
  unreached_kept _ ts e = absurd e

  assert_kept : (ss ts : List StmtTree) → AreStmtsInRange f ss → LeavesOutAssert f ss ts → Alike m (Follow m ss) (Follow m ts)
  assert_kept (assert b ∷ rest) ts range (v, e) = rw e (through m (Then m (Passes m b) (Follow m rest)) (Then m (Stays m) (Follow m rest)) (Follow m rest) passes (stays_then m (Follow m rest)))
    where
      passes : Alike m (Then m (Passes m b) (Follow m rest)) (Then m (Stays m) (Follow m rest))
      passes = then_alike m (Passes m b) (Stays m) (Follow m rest) (Follow m rest) (λ i si j sj. ((λ r. r.0), (λ r. (r, holds_everywhere b range.0 v i si)))) (same m (Follow m rest))
  assert_kept _ ts range e = absurd e

  first_kept : (ss ts : List StmtTree) → AreStmtsInRange f ss → TakesFirstBlock f ss ts → Alike m (Follow m ss) (Follow m ts)
  first_kept (branch b p q ∷ rest) ts range (v, e) =
      rw e (λ i si. block_at m i (Chooses m b (Leads m p) (Leads m q)) p rest si (chooses_first m i b (Leads m p) (Leads m q) (holds_everywhere b range.0.0 v i si)))
  first_kept _ ts range e = absurd e

  second_kept : (ss ts : List StmtTree) → AreStmtsInRange f ss → TakesSecondBlock f ss ts → Alike m (Follow m ss) (Follow m ts)
  second_kept (branch b p q ∷ rest) ts range (v, e) =
      rw e (λ i si. block_at m i (Chooses m b (Leads m p) (Leads m q)) q rest si (chooses_second m i b (Leads m p) (Leads m q) (fails_everywhere b range.0.0 v i si)))
  second_kept _ ts range e = absurd e

  loop_kept : (ss ts : List StmtTree) → AreStmtsInRange f ss → LeavesOutLoop f ss ts → Alike m (Follow m ss) (Follow m ts)
  loop_kept (loop b p ∷ rest) ts range (v, e) =
      rw e (through m (Then m (Repeats m b (Leads m p)) (Follow m rest)) (Then m (Stays m) (Follow m rest)) (Follow m rest)
      (then_alike m (Repeats m b (Leads m p)) (Stays m) (Follow m rest) (Follow m rest) (λ i si. repeats_none m i b (Leads m p) (fails_everywhere b range.0.0 v i si)) (same m (Follow m rest)))
      (stays_then m (Follow m rest)))
  loop_kept _ ts range e = absurd e

  either_kept : (ss ts : List StmtTree) → TakesEitherBlock ss ts → Alike m (Follow m ss) (Follow m ts)
  either_kept (branch b p q ∷ rest) ts (twice, e) =
      rw (e, ← twice) (λ i si. block_at m i (Chooses m b (Leads m p) (Leads m p)) p rest si (chooses_same m b (Leads m p) i si))
  either_kept _ ts e = absurd e

  -- a block that ends with the statement r
  ended_block : (p : ProgTree) (ps : List StmtTree) (r : StmtTree) → stmts_of p ≡ ps ++ r ∷ [] → Alike m (Leads m p) (Then m (Leads m (prog_of ps)) (Does m r))
  ended_block p ps r e =
      let parts : Alike m (Leads m p) (Follow m (ps ++ r ∷ [])) = subst (λ us. Alike m (Leads m p) (Follow m us)) e (leads_follow m p) in
      through m (Leads m p) (Then m (Follow m ps) (Follow m (r ∷ []))) (Then m (Leads m (prog_of ps)) (Does m r))
      (through m (Leads m p) (Follow m (ps ++ r ∷ [])) (Then m (Follow m ps) (Follow m (r ∷ []))) parts (follow_append m ps (r ∷ [])))
      (then_alike m (Follow m ps) (Leads m (prog_of ps)) (Follow m (r ∷ [])) (Does m r)
      (back m (Leads m (prog_of ps)) (Follow m ps) (leads-prog_of m ps)) (then_stays m (Does m r)))

  shared_kept : (ss ts : List StmtTree) → SharesLastStatement ss ts → Alike m (Follow m ss) (Follow m ts)
  shared_kept (branch b p q ∷ rest) ts (ps, qs, r, ep, eq, e) =
      rw e (taken_out m b (Leads m p) (Leads m q) (Leads m (prog_of ps)) (Leads m (prog_of qs)) (Does m r) (Follow m rest) (ended_block p ps r ep) (ended_block q qs r eq))
  shared_kept _ ts e = absurd e

  first_after_kept : (ss ts : List StmtTree) → AreStmtsInRange f ss → TakesFirstBlockAfter f ss ts → Alike m (Follow m ss) (Follow m ts)
  first_after_kept (s ∷ branch c p q ∷ rest) ts range (v, e) =
      rw e (then_after m (Does m s) (Follow m (branch c p q ∷ rest)) (Follow m (stmts_of p ++ rest))
      (λ i k si sk d. block_at m k (Chooses m c (Leads m p) (Leads m q)) p rest sk
      (chooses_first m k c (Leads m p) (Leads m q) (holds_after s c range.0 range.1.0.0 v i k si sk d))))
  first_after_kept _ ts range e = absurd e

  second_after_kept : (ss ts : List StmtTree) → AreStmtsInRange f ss → TakesSecondBlockAfter f ss ts → Alike m (Follow m ss) (Follow m ts)
  second_after_kept (s ∷ branch c p q ∷ rest) ts range (v, e) =
      rw e (then_after m (Does m s) (Follow m (branch c p q ∷ rest)) (Follow m (stmts_of q ++ rest))
      (λ i k si sk d. block_at m k (Chooses m c (Leads m p) (Leads m q)) q rest sk
      (chooses_second m k c (Leads m p) (Leads m q) (fails_after s c range.0 range.1.0.0 v i k si sk d))))
  second_after_kept (s ∷ loop c p ∷ rest) ts range (v, e) =
      rw e (then_after m (Does m s) (Follow m (loop c p ∷ rest)) (Follow m rest)
      (λ i k si sk d. at_through m k (Follow m (loop c p ∷ rest)) (Then m (Stays m) (Follow m rest)) (Follow m rest)
      (then_at m k (Repeats m c (Leads m p)) (Stays m) (Follow m rest) (Follow m rest) (repeats_none m k c (Leads m p) (fails_after s c range.0 range.1.0.0 v i k si sk d)) (same m (Follow m rest)))
      (stays_then_at m k sk (Follow m rest))))
  second_after_kept _ ts range e = absurd e

  unswitched_kept : (ss ts : List StmtTree) → AreStmtsInRange f ss → UnswitchesLoop f ss ts → Alike m (Follow m ss) (Follow m ts)
  unswitched_kept (loop b (branch_then c p q empty) ∷ rest) ts range (v, w, e) =
      rw e (then_alike m (Repeats m b (Leads m (branch_then c p q empty))) (Chooses m c (Leads m (single (loop b p))) (Leads m (single (loop b q)))) (Follow m rest) (Follow m rest)
      (through m (Repeats m b (Leads m (branch_then c p q empty))) (Chooses m c (Repeats m b (Leads m p)) (Repeats m b (Leads m q))) (Chooses m c (Leads m (single (loop b p))) (Leads m (single (loop b q))))
      (through m (Repeats m b (Leads m (branch_then c p q empty))) (Repeats m b (Chooses m c (Leads m p) (Leads m q))) (Chooses m c (Repeats m b (Leads m p)) (Repeats m b (Leads m q)))
      (repeats_alike m b (Leads m (branch_then c p q empty)) (Chooses m c (Leads m p) (Leads m q)) (then_stays m (Chooses m c (Leads m p) (Leads m q))))
      (repeats_chooses m b c (Leads m p) (Leads m q) keeps keeps_not))
      (chooses_alike m c (Repeats m b (Leads m p)) (Leads m (single (loop b p))) (Repeats m b (Leads m q)) (Leads m (single (loop b q)))
      (back m (Leads m (single (loop b p))) (Repeats m b (Leads m p)) (leads-single m (loop b p)))
      (back m (Leads m (single (loop b q))) (Repeats m b (Leads m q)) (leads-single m (loop b q)))))
      (same m (Follow m rest)))
    where
      keeps : (i k : S) → m.IsState i → m.IsState k → m.holds c i ≡ true → Leads m p i k → m.holds c k ≡ true
      keeps i k si sk h r = meets c p c range.0.1.0 range.0.1.1 range.0.1.0 v i k si sk h r

      keeps_not : (i k : S) → m.IsState i → m.IsState k → m.holds c i ≡ false → Leads m q i k → m.holds c k ≡ false
      keeps_not i k si sk h r =
          not-true (m.holds c k)
          (sym (m.of_negation c k)
          ∙ meets (negation c) q (negation c) range.0.1.0 range.0.1.2 range.0.1.0 w i k si sk (m.of_negation c i ∙ not_from_false (m.holds c i) h) r)
  unswitched_kept _ ts range e = absurd e

  flattened_kept : (ss ts : List StmtTree) → FlattensLoop ss ts → Alike m (Follow m ss) (Follow m ts)
  flattened_kept (loop b (loop_then c p empty) ∷ rest) ts (one, e) =
      rw (e, ← one) (then_alike m (Repeats m b (Leads m (loop_then b p empty))) (Repeats m b (Leads m p)) (Follow m rest) (Follow m rest)
      (through m (Repeats m b (Leads m (loop_then b p empty))) (Repeats m b (Repeats m b (Leads m p))) (Repeats m b (Leads m p))
      (repeats_alike m b (Leads m (loop_then b p empty)) (Repeats m b (Leads m p)) (then_stays m (Repeats m b (Leads m p))))
      (repeats_repeats m b (Leads m p)))
      (same m (Follow m rest)))
  flattened_kept (loop b (branch_then c p q empty) ∷ rest) ts (one, e) =
      rw (e, ← one) (then_alike m (Repeats m b (Leads m (branch_then b p q empty))) (Repeats m b (Leads m p)) (Follow m rest) (Follow m rest)
      (through m (Repeats m b (Leads m (branch_then b p q empty))) (Repeats m b (Chooses m b (Leads m p) (Leads m q))) (Repeats m b (Leads m p))
      (repeats_alike m b (Leads m (branch_then b p q empty)) (Chooses m b (Leads m p) (Leads m q)) (then_stays m (Chooses m b (Leads m p) (Leads m q))))
      (repeats_chosen m b (Leads m p) (Leads m q)))
      (same m (Follow m rest)))
  flattened_kept _ ts e = absurd e

  pub step_kept : (n : ℕ) (ss ts : List StmtTree) → AreStmtsInRange f ss → Step f n ss ts → Alike m (Follow m ss) (Follow m ts)
  step_kept n ss ts range step = by_case (some_holds n (step_relations f ss ts) step)
    where
      by_case : SomeHolds (step_relations f ss ts) → Alike m (Follow m ss) (Follow m ts)
      by_case (inl x) = skip_kept ss ts x
      by_case (inr (inl x)) = unreached_kept ss ts x
      by_case (inr (inr (inl x))) = assert_kept ss ts range x
      by_case (inr (inr (inr (inl x)))) = first_kept ss ts range x
      by_case (inr (inr (inr (inr (inl x))))) = second_kept ss ts range x
      by_case (inr (inr (inr (inr (inr (inl x)))))) = loop_kept ss ts range x
      by_case (inr (inr (inr (inr (inr (inr (inl x))))))) = either_kept ss ts x
      by_case (inr (inr (inr (inr (inr (inr (inr (inl x)))))))) = shared_kept ss ts x
      by_case (inr (inr (inr (inr (inr (inr (inr (inr (inl x))))))))) = first_after_kept ss ts range x
      by_case (inr (inr (inr (inr (inr (inr (inr (inr (inr (inl x)))))))))) = second_after_kept ss ts range x
      by_case (inr (inr (inr (inr (inr (inr (inr (inr (inr (inr (inl x))))))))))) = unswitched_kept ss ts range x
      by_case (inr (inr (inr (inr (inr (inr (inr (inr (inr (inr (inr (inl x)))))))))))) = flattened_kept ss ts x
      by_case (inr (inr (inr (inr (inr (inr (inr (inr (inr (inr (inr (inr x)))))))))))) = absurd x

  -- ---- paths

  block_kept : (s : StmtTree) (j : ℕ) (p q : ProgTree) → block s j ≡ Some p → Alike m (Leads m p) (Leads m q) → Alike m (Does m s) (Does m (with_block s j q))
  block_kept (branch b x y) zero p q e a =
      chooses_alike m b (Leads m x) (Leads m q) (Leads m y) (Leads m y) (subst (λ z. Alike m (Leads m z) (Leads m q)) (sym (same_Some x p e)) a) (same m (Leads m y))
  block_kept (branch b x y) (suc zero) p q e a =
      chooses_alike m b (Leads m x) (Leads m x) (Leads m y) (Leads m q) (same m (Leads m x)) (subst (λ z. Alike m (Leads m z) (Leads m q)) (sym (same_Some y p e)) a)
  block_kept (loop b x) zero p q e a = repeats_alike m b (Leads m x) (Leads m q) (subst (λ z. Alike m (Leads m z) (Leads m q)) (sym (same_Some x p e)) a)
  block_kept _ _ p q e a = absurd cc

  -- lists agree if they agree from a position on
  from_position : (k : ℕ) (ss new : List StmtTree) → Alike m (Follow m (drop k ss)) (Follow m new) → Alike m (Follow m ss) (Follow m (take k ss ++ new))
  from_position k ss new a =
      subst (λ us. Alike m (Follow m us) (Follow m (take k ss ++ new))) (take-append-drop k ss) (follow_front m (take k ss) (drop k ss) new a)

  pub steps_at_kept : (n : ℕ) (path : List ℕ) (ss ts : List StmtTree) → AreStmtsInRange f ss → StepsAt f n path ss ts → Alike m (Follow m ss) (Follow m ts)
  steps_at_kept n [] ss ts range made = absurd made
  steps_at_kept n (k ∷ []) ss ts range (new, step, e) = rw e (from_position k ss new (step_kept n (drop k ss) new (drop_in f k ss range) step))
  steps_at_kept n (k ∷ j ∷ path) ss ts range (s, rest, p, q, at, is, made, e) =
      let left : AreStmtsInRange f (s ∷ rest) = subst (AreStmtsInRange f) at (drop_in f k ss range) in
      let inner = steps_at_kept n path (stmts_of p) (stmts_of q) (stmts_in f p (block_in f s j p is left.0)) made in
      let here : Alike m (Follow m (s ∷ rest)) (Follow m (with_block s j q ∷ rest)) =
      then_alike m (Does m s) (Does m (with_block s j q)) (Follow m rest) (Follow m rest) (block_kept s j p q is (follow_leads m p q inner)) (same m (Follow m rest)) in
      rw e (from_position k ss (with_block s j q ∷ rest) (subst (λ us. Alike m (Follow m us) (Follow m (with_block s j q ∷ rest))) (sym at) here))
