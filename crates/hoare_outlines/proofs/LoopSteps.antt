-- The result of the finder for a loop: the sets through which its invariant grows, until its body keeps it.
use Rattle.std.proofs.Common.{◌≡◌, ℕ, zero, suc, ◌+◌, ◌<◌, ◌≤◌, ⊎_elim, List, [], ◌∷◌, length, Bool, true, false, not, cond, if◌then◌else◌, ◌&&◌, ◌||◌, refl, sym, ap, ◌∙◌, arith}
use Rattle.std.proofs.lemmas.Bool.{and_from, cases_lt, or_cases, or_left, or_right}
use Rattle.kat_model.specs.Trees.{TestTree, Term}
use Rattle.kat_model.specs.Problems.{ProblemParts}
use Rattle.kat_model.specs.Steps.{Atom, truth}
use Rattle.while_lang.specs.Flows.{FlowTree, loop}
use Rattle.while_lang.specs.Encoding.{encoded}
use Rattle.outline_rules.specs.StepFunctions.{StepDiagramsParts, step_value, IsStepId, IsStepDiagram, KeepsSteps, Entails}
use Rattle.outline_rules.proofs.StepSets.{step_value-kept}
use Rattle.hoare_outlines.specs.declared.finding.FoundLoop.{FoundLoop}
use Rattle.hoare_outlines.specs.Working.AtomSets.{AtomSet, IsSetId, IsAllowedSet}
use Rattle.hoare_outlines.specs.Working.Found.{StmtFound, FlowFound}
use Rattle.hoare_outlines.specs.Working.FoundLoops.{turn_term, IsGrown, GrowsFrom, IsFoundLoop}
use Rattle.hoare_outlines.proofs.SetIds.{set_kept}
use Rattle.hoare_outlines.proofs.SetParts.{union_set}
use Rattle.hoare_outlines.proofs.Findings.{part_allowed, union_allowed}
use Rattle.hoare_outlines.proofs.Reaching.{reached_before, reached_under, reached_again, reached_loop}

-- ---- the number of atoms outside a set

abbrev pub outside : ℕ → AtomSet → ℕ
outside zero X = if X [] then 0 else 1
outside (suc n) X = outside n (λ atom. X (false ∷ atom)) + outside n (λ atom. X (true ∷ atom))

pub fewer_outside : (n : ℕ) (X Y : AtomSet) → ((atom : Atom) → length atom ≡ n → X atom ≡ true → Y atom ≡ true) → outside n Y ≤ outside n X
fewer_outside zero X Y inside = by_value (X []) (Y []) (inside [] refl)
  where
    by_value : (a b : Bool) → (a ≡ true → b ≡ true) → cond b 0 1 ≤ cond a 0 1
    by_value a true f = omega arith
    by_value true false f = let clash = f refl in cc
    by_value false false f = omega arith
fewer_outside (suc n) X Y inside =
    let first = fewer_outside n (λ atom. X (false ∷ atom)) (λ atom. Y (false ∷ atom)) (λ atom wide h. inside (false ∷ atom) (ap suc wide) h) in
    let second = fewer_outside n (λ atom. X (true ∷ atom)) (λ atom. Y (true ∷ atom)) (λ atom wide h. inside (true ∷ atom) (ap suc wide) h) in
    omega (arith, first, second)

-- a superset with at least as many atoms outside it is the same set
pub as_many_outside : (n : ℕ) (X Y : AtomSet) → ((atom : Atom) → length atom ≡ n → X atom ≡ true → Y atom ≡ true) → outside n X ≤ outside n Y → (atom : Atom) → length atom ≡ n → Y atom ≡ true → X atom ≡ true
as_many_outside zero X Y inside le [] wide h = by_value (X []) (Y []) h le
  where
    by_value : (a b : Bool) → b ≡ true → cond a 0 1 ≤ cond b 0 1 → a ≡ true
    by_value true b e l = refl
    by_value false true e l = absurd (omega (arith, l))
    by_value false false e l = cc
as_many_outside zero X Y inside le (b ∷ atom) wide h = absurd (omega (arith, wide))
as_many_outside (suc n) X Y inside le [] wide h = absurd (omega (arith, wide))
as_many_outside (suc n) X Y inside le (false ∷ atom) wide h =
    let second = fewer_outside n (λ z. X (true ∷ z)) (λ z. Y (true ∷ z)) (λ z w k. inside (true ∷ z) (ap suc w) k) in
    as_many_outside n (λ z. X (false ∷ z)) (λ z. Y (false ∷ z)) (λ z w k. inside (false ∷ z) (ap suc w) k) (omega (arith, le, second)) atom (omega (arith, wide)) h
as_many_outside (suc n) X Y inside le (true ∷ atom) wide h =
    let first = fewer_outside n (λ z. X (false ∷ z)) (λ z. Y (false ∷ z)) (λ z w k. inside (false ∷ z) (ap suc w) k) in
    as_many_outside n (λ z. X (true ∷ z)) (λ z. Y (true ∷ z)) (λ z w k. inside (true ∷ z) (ap suc w) k) (omega (arith, le, first)) atom (omega (arith, wide)) h

-- the number of atoms outside the set of an id
abbrev pub outside_id : StepDiagramsParts → ℕ → ℕ
outside_id d id = outside d.tests (λ atom. step_value d id atom atom)

-- when diagrams are added, this number does not grow
pub outside_kept : (old new : StepDiagramsParts) (id : ℕ) → KeepsSteps old new → IsStepId old id → outside_id new id ≤ outside_id old id
outside_kept old new id kept is =
    let same : outside new.tests (λ atom. step_value new id atom atom) ≡ outside old.tests (λ atom. step_value new id atom atom) = ap (λ n. outside n (λ atom. step_value new id atom atom)) kept.tests in
    let fewer = fewer_outside old.tests (λ atom. step_value old id atom atom) (λ atom. step_value new id atom atom) (λ atom wide h. step_value-kept old new kept id is atom atom ∙ h) in
    omega (arith, same, fewer)

-- adding an atom to a set leaves fewer atoms outside
pub fewer_left : (old new : StepDiagramsParts) (invariant again grown : ℕ) (I A : AtomSet) → KeepsSteps old new → IsSetId old invariant I → IsSetId old again A → (Entails old again invariant → ⊥)
    → IsSetId new grown (λ atom. I atom || A atom) → outside_id new grown < outside_id old invariant
fewer_left old new invariant again grown I A kept is_invariant is_again more is_grown = by_order (outside_id new grown) (outside_id old invariant) as_many
  where
    by_order : (m n : ℕ) → (n ≤ m → ⊥) → m < n
    by_order m n f = ⊎_elim (λ lt. lt) (λ le. absurd (f le)) (cases_lt m n)

    value_in : (atom : Atom) → length atom ≡ old.tests → step_value old invariant atom atom ≡ I atom
    value_in atom wide = is_invariant.value atom atom wide wide

    grown_in : (atom : Atom) → length atom ≡ old.tests → step_value new grown atom atom ≡ (I atom || A atom)
    grown_in atom wide = is_grown.value atom atom (wide ∙ sym kept.tests) (wide ∙ sym kept.tests)

    inside : (atom : Atom) → length atom ≡ old.tests → step_value old invariant atom atom ≡ true → step_value new grown atom atom ≡ true
    inside atom wide h = grown_in atom wide ∙ or_left (I atom) (A atom) (sym (value_in atom wide) ∙ h)

    as_many : outside_id old invariant ≤ outside_id new grown → ⊥
    as_many le =
        more (λ x y lx ly h.
        let own : A x ≡ true = sym (is_again.value x y lx ly) ∙ h in
        let same : outside new.tests (λ atom. step_value new grown atom atom) ≡ outside old.tests (λ atom. step_value new grown atom atom) = ap (λ n. outside n (λ atom. step_value new grown atom atom)) kept.tests in
        let there = as_many_outside old.tests (λ atom. step_value old invariant atom atom) (λ atom. step_value new grown atom atom) inside (omega (arith, le, same)) x lx (grown_in x lx ∙ or_right (I x) (A x) own) in
        is_invariant.value x y lx ly ∙ sym (value_in x lx) ∙ there)

-- ---- the invariant

module _ (q : ProblemParts) (turn : Term) where
  grown_first : (X : AtomSet) → IsAllowedSet q X → IsGrown q turn X X
  grown_first X allowed = record { holds = λ atom h. h; allowed = allowed; reached = reached_before q turn X allowed }

  -- a set grown from a smaller entry, with the entry added, is grown from the entry
  grown_from_less : (Y J X : AtomSet) → ((atom : Atom) → length atom ≡ q.tests → Y atom ≡ true → X atom ≡ true) → IsAllowedSet q X → IsGrown q turn Y J → IsGrown q turn X (λ atom. J atom || X atom)
  grown_from_less Y J X within allowed grown =
      record {
        holds = λ atom h. or_right (J atom) (X atom) h;
        allowed = union_allowed q J X grown.allowed allowed;
        reached = λ to wide h.
            ⊎_elim
            (λ j. let r = grown.reached to wide j in (r.0, r.1, within r.0 r.1.0 r.2, r.3))
            (reached_before q turn X allowed to wide)
            (or_cases (J to) (X to) h);
      }

  -- a loop may start with its entry
  pub starts_itself : (d : StepDiagramsParts) (set : ℕ) → GrowsFrom q turn d set d set
  starts_itself d set X is allowed = (X, is, grown_first X allowed)

  pub starts_kept : (old new : StepDiagramsParts) (set : ℕ) → KeepsSteps old new → GrowsFrom q turn old set new set
  starts_kept old new set kept X is allowed = (X, set_kept old new kept set X is, grown_first X allowed)

  -- a loop may start with its entry and the invariant found from a smaller entry
  pub starts_found : (old mid new : StepDiagramsParts) (found : FoundLoop) (set start : ℕ) → KeepsSteps old mid → KeepsSteps mid new → old.tests ≡ q.tests → Entails old found.entry set
      → IsStepDiagram new start (λ x y. step_value mid found.invariant x y || step_value mid set x y) → IsFoundLoop q old turn found → GrowsFrom q turn old set new start
  starts_found old mid new found set start k1 k2 tests entails is_start earlier X is allowed = (
    (λ atom. earlier.invariant atom || X atom),
    union_set mid new found.invariant set start earlier.invariant X k2 (set_kept old mid k1 found.invariant earlier.invariant earlier.is_invariant) (set_kept old mid k1 set X is) is_start,
    grown_from_less earlier.entry earlier.invariant X within allowed earlier.grown,
  )
    where
      within : (atom : Atom) → length atom ≡ q.tests → earlier.entry atom ≡ true → X atom ≡ true
      within atom wide h =
          let own = wide ∙ sym tests in
          sym (is.value atom atom own own) ∙ entails atom atom own own (earlier.is_entry.value atom atom own own ∙ h)

module _ (q : ProblemParts) (b : TestTree) (f : FlowTree) where
  pub grown_more : (d : StepDiagramsParts) (X I : AtomSet) (ids : List ℕ) (again : ℕ) → IsGrown q (turn_term b f) X I → (found : FlowFound q f d (λ atom. I atom && truth b atom) ids again) → IsGrown q (turn_term b f) X (λ atom. I atom || found.end atom)
  grown_more d X I ids again grown found =
      record {
        holds = λ atom h. or_left (I atom) (found.end atom) (grown.holds atom h);
        allowed = union_allowed q I found.end grown.allowed found.allowed;
        reached = reached_again q (turn_term b f) X I found.end found.allowed grown.reached (reached_under q b f I found.end found.allowed found.reached);
      }

  -- if the body leads back into the invariant, the loop is solved
  pub loop_found : (mid d : StepDiagramsParts) (X I : AtomSet) (ids : List ℕ) (invariant enters again leaves : ℕ) → KeepsSteps mid d → d.tests ≡ q.tests → IsGrown q (turn_term b f) X I → IsSetId mid invariant I → IsSetId mid enters (λ atom. I atom && truth b atom)
      → IsSetId mid leaves (λ atom. I atom && not (truth b atom)) → FlowFound q f d (λ atom. I atom && truth b atom) ids again → Entails d again invariant → StmtFound q (loop b f) d X (invariant ∷ enters ∷ ids) leaves
  loop_found mid d X I ids invariant enters again leaves kept tests grown is_invariant is_enters is_leaves found entails =
      record {
        sets = I ∷ (λ atom. I atom && truth b atom) ∷ found.sets;
        are_sets = (set_kept mid d kept invariant I is_invariant, (set_kept mid d kept enters _ is_enters, found.are_sets));
        end = λ atom. I atom && not (truth b atom);
        is_end = set_kept mid d kept leaves _ is_leaves;
        allowed = part_allowed q I (λ atom. not (truth b atom)) grown.allowed;
        annotated =
            record {
              invariant = I;
              body = λ atom. I atom && truth b atom;
              bodies = found.sets;
              body_end = found.end;
              within = refl;
              enters = λ atom wide al h t. grown.holds atom h;
              turns = λ atom wide al h t. and_from (I atom) (truth b atom) h t;
              runs = found.annotated;
              returns = λ atom wide al h t.
                  let own = wide ∙ sym tests in
                  let inside = entails atom atom own own (found.is_end.value atom atom own own ∙ h) in
                  sym ((set_kept mid d kept invariant I is_invariant).value atom atom own own) ∙ inside;
              leaves = λ atom wide al h t. and_from (I atom) (not (truth b atom)) h t;
            };
        reached = reached_loop q b (encoded f) X I grown.allowed grown.reached;
      }
