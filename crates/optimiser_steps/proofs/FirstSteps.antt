-- The search for the first step of a list, place by place.
use Rattle.std.proofs.Common.{◌≡◌, ◌<◌, ◌≤◌, ◌+◌, ℕ, zero, suc, inl, inr, ⊎_elim, List, [], ◌∷◌, ◌++◌, length, take, drop, Some, None, refl, sym, ap, ◌∙◌, subst, arith}
use Rattle.std.proofs.lemmas.Bool.{cases_lt, cases_eq}
use Rattle.std.proofs.lemmas.Option.{same_Some}
use Rattle.while_lang.specs.Files.{FileParts}
use Rattle.while_lang.specs.Programs.{ProgTree, StmtTree, prog_of, stmts_of}
use Rattle.while_lang.proofs.ProgramLists.{stmts_of-prog_of}
use Rattle.optimiser_steps.specs.Statements.{block, with_block}
use Rattle.optimiser_steps.specs.Steps.{step_relations, Step}
use Rattle.optimiser_steps.specs.Paths.{StepsAt, NoStepBefore, NoStep, IsFirstStep}
use Rattle.optimiser_steps.proofs.NumberedSteps.{nth_within, SomeHolds, some_holds}

module _ (f : FileParts) where
  -- a step has a number from 1 to 12
  pub step_within : (n : ℕ) (ss ts : List StmtTree) → Step f n ss ts → (1 ≤ n) × (n < 13)
  step_within n ss ts step = let w = nth_within n (step_relations f ss ts) step in (w.0, omega (arith, w.1))

  -- no step applies to the empty list
  none_of_nothing : (n : ℕ) (ts : List StmtTree) → Step f n [] ts → ⊥
  none_of_nothing n ts step = by_case (some_holds n (step_relations f [] ts) step)
    where
      by_case : SomeHolds (step_relations f [] ts) → ⊥
      by_case (inl x) = x
      by_case (inr (inl x)) = x
      by_case (inr (inr (inl x))) = x
      by_case (inr (inr (inr (inl x)))) = x
      by_case (inr (inr (inr (inr (inl x))))) = x
      by_case (inr (inr (inr (inr (inr (inl x)))))) = x
      by_case (inr (inr (inr (inr (inr (inr (inl x))))))) = x
      by_case (inr (inr (inr (inr (inr (inr (inr (inl x)))))))) = x
      by_case (inr (inr (inr (inr (inr (inr (inr (inr (inl x))))))))) = x
      by_case (inr (inr (inr (inr (inr (inr (inr (inr (inr (inl x)))))))))) = x
      by_case (inr (inr (inr (inr (inr (inr (inr (inr (inr (inr (inl x))))))))))) = x
      by_case (inr (inr (inr (inr (inr (inr (inr (inr (inr (inr (inr (inl x)))))))))))) = x
      by_case (inr (inr (inr (inr (inr (inr (inr (inr (inr (inr (inr (inr x)))))))))))) = x

  -- the statement at a position, and its block, are unique
  module _ (ss : List StmtTree) (k j : ℕ) (s : StmtTree) (rest : List StmtTree) (p : ProgTree) (at : drop k ss ≡ s ∷ rest) (is : block s j ≡ Some p) where
    inner_step : (n : ℕ) (path : List ℕ) (ts : List StmtTree) → StepsAt f n (k ∷ j ∷ path) ss ts → (us : List StmtTree) × StepsAt f n path (stmts_of p) us
    inner_step n path ts (s', rest', p', q', at', is', made, e) =
        let whole : s' ∷ rest' ≡ s ∷ rest = sym at' ∙ at in
        let same_s : s' ≡ s = cc in
        let same_p : p' ≡ p = same_Some p' p (sym is' ∙ ap (λ (x : StmtTree). block x j) same_s ∙ is) in
        (stmts_of q', subst (λ x. StepsAt f n path (stmts_of x) (stmts_of q')) same_p made)

    -- the first step of a block is the first step of the list, if no step comes before the block
    pub first_inside : NoStepBefore f (k ∷ j ∷ []) ss → (path : List ℕ) (n : ℕ) (us : List StmtTree) → IsFirstStep f (stmts_of p) path n us →
        IsFirstStep f ss (k ∷ j ∷ path) n (take k ss ++ with_block s j (prog_of us) ∷ rest)
    first_inside none path n us inner = record { made = made; first = first; least = least }
      where
        made : StepsAt f n (k ∷ j ∷ path) ss (take k ss ++ with_block s j (prog_of us) ∷ rest)
        made = (s, rest, p, prog_of us, at, is, subst (StepsAt f n path (stmts_of p)) (sym (stmts_of-prog_of us)) inner.made, refl)

        first : NoStepBefore f (k ∷ j ∷ path) ss
        first m [] ts before step = absurd step
        first m (i ∷ more) ts (inl lt) step = none m (i ∷ more) ts (inl lt) step
        first m (i ∷ []) ts (inr (e, before)) step = none m (i ∷ []) ts (inr (e, tt)) step
        first m (i ∷ l ∷ more) ts (inr (e, inl lt)) step = none m (i ∷ l ∷ more) ts (inr (e, inl lt)) step
        first m (i ∷ l ∷ more) ts (inr (e, inr (d, before))) step =
            let here : StepsAt f m (k ∷ j ∷ more) ss ts = subst (λ x. StepsAt f m (x ∷ j ∷ more) ss ts) e (subst (λ x. StepsAt f m (i ∷ x ∷ more) ss ts) d step) in
            let within = inner_step m more ts here in
            inner.first m more within.0 before within.1

        least : (m : ℕ) (vs : List StmtTree) → m < n → StepsAt f m (k ∷ j ∷ path) ss vs → ⊥
        least m vs lt step = let within = inner_step m path vs step in inner.least m within.0 lt within.1

    -- if a block has no step, no step comes before the next block
    pub none_inside : NoStepBefore f (k ∷ j ∷ []) ss → NoStep f (stmts_of p) → NoStepBefore f (k ∷ (j + 1) ∷ []) ss
    none_inside none inner m [] ts before step = absurd step
    none_inside none inner m (i ∷ more) ts (inl lt) step = none m (i ∷ more) ts (inl lt) step
    none_inside none inner m (i ∷ []) ts (inr (e, before)) step = none m (i ∷ []) ts (inr (e, tt)) step
    none_inside none inner m (i ∷ l ∷ more) ts (inr (e, inr (d, before))) step = absurd before
    none_inside none inner m (i ∷ l ∷ more) ts (inr (e, inl lt)) step =
        ⊎_elim {C = ⊥}
        (λ d.
        let here : StepsAt f m (k ∷ j ∷ more) ss ts = subst (λ x. StepsAt f m (x ∷ j ∷ more) ss ts) e (subst (λ x. StepsAt f m (i ∷ x ∷ more) ss ts) d step) in
        let within = inner_step m more ts here in
        inner m more within.0 within.1)
        (λ d. none m (i ∷ l ∷ more) ts (inr (e, inl (omega arith))) step)
        (cases_eq l j)

  -- if a statement has no further block, no step comes before the next position
  pub none_in_statement : (ss : List StmtTree) (k j : ℕ) (s : StmtTree) (rest : List StmtTree) → drop k ss ≡ s ∷ rest → ((i : ℕ) → j ≤ i → block s i ≡ None) →
      NoStepBefore f (k ∷ j ∷ []) ss → NoStepBefore f ((k + 1) ∷ []) ss
  none_in_statement ss k j s rest at last none m [] ts before step = absurd step
  none_in_statement ss k j s rest at last none m (i ∷ more) ts (inr (e, before)) step = absurd before
  none_in_statement ss k j s rest at last none m (i ∷ more) ts (inl lt) step =
      ⊎_elim {C = ⊥} (λ e. here more e step) (λ d. none m (i ∷ more) ts (inl (omega arith)) step) (cases_eq i k)
    where
      here : (more : List ℕ) → i ≡ k → StepsAt f m (i ∷ more) ss ts → ⊥
      here [] e step = none m (i ∷ []) ts (inr (e, tt)) step
      here (l ∷ more) e step =
          ⊎_elim {C = ⊥} (λ lt. none m (i ∷ l ∷ more) ts (inr (e, inl lt)) step)
          (λ le. no_block l more le (subst (λ x. StepsAt f m (x ∷ l ∷ more) ss ts) e step)) (cases_lt l j)
        where
          no_block : (l : ℕ) (more : List ℕ) → j ≤ l → StepsAt f m (k ∷ l ∷ more) ss ts → ⊥
          no_block l more le (s', rest', p', q', at', is', made, d) =
              let whole : s' ∷ rest' ≡ s ∷ rest = sym at' ∙ at in
              let same_s : s' ≡ s = cc in
              let some : Some p' ≡ None = sym is' ∙ ap (λ (x : StmtTree). block x l) same_s ∙ last l le in
              absurd (let nothing : Some p' ≡ None = some in cc)

  -- no step comes before the first position
  pub none_at_first : (ss : List StmtTree) → NoStepBefore f (0 ∷ []) ss
  none_at_first ss m [] ts before step = absurd step
  none_at_first ss m (i ∷ more) ts (inl lt) step = absurd (let less : i < 0 = lt in omega arith)
  none_at_first ss m (i ∷ more) ts (inr (e, before)) step = absurd before

  -- the least step at a position is the first, if no step comes before it
  pub first_here : (ss : List StmtTree) (k n : ℕ) (new : List StmtTree) → NoStepBefore f (k ∷ []) ss → Step f n (drop k ss) new →
      ((m : ℕ) (ts : List StmtTree) → 1 ≤ m → m < n → Step f m (drop k ss) ts → ⊥) → IsFirstStep f ss (k ∷ []) n (take k ss ++ new)
  first_here ss k n new none step least = record {
    made = (new, step, refl);
    first = none;
    least = λ m us lt made. least m made.0 (step_within m (drop k ss) made.0 made.1).0 lt made.1;
  }

  -- if no step is possible at a position, none comes before the blocks there
  pub none_here : (ss : List StmtTree) (k : ℕ) → NoStepBefore f (k ∷ []) ss → ((m : ℕ) (ts : List StmtTree) → 1 ≤ m → m < 13 → Step f m (drop k ss) ts → ⊥) →
      NoStepBefore f (k ∷ 0 ∷ []) ss
  none_here ss k none here m [] ts before step = absurd step
  none_here ss k none here m (i ∷ more) ts (inl lt) step = none m (i ∷ more) ts (inl lt) step
  none_here ss k none here m (i ∷ []) ts (inr (e, before)) step =
      let made : StepsAt f m (k ∷ []) ss ts = subst (λ x. StepsAt f m (x ∷ []) ss ts) e step in
      let w = step_within m (drop k ss) made.0 made.1 in
      here m made.0 w.0 w.1 made.1
  none_here ss k none here m (i ∷ l ∷ more) ts (inr (e, inl lt)) step = absurd (let less : l < 0 = lt in omega arith)
  none_here ss k none here m (i ∷ l ∷ more) ts (inr (e, inr (d, before))) step = absurd before

  -- there is no statement past the last position
  drop_past : (k : ℕ) (ss : List StmtTree) → length ss ≤ k → drop k ss ≡ []
  drop_past zero [] le = refl
  drop_past (suc k) [] le = refl
  drop_past zero (s ∷ ss) le = absurd (omega arith)
  drop_past (suc k) (s ∷ ss) le = drop_past k ss (omega arith)

  none_past : (ss : List StmtTree) (m k : ℕ) (more : List ℕ) (ts : List StmtTree) → length ss ≤ k → StepsAt f m (k ∷ more) ss ts → ⊥
  none_past ss m k [] ts le (new, step, e) = none_of_nothing m new (subst (λ us. Step f m us new) (drop_past k ss le) step)
  none_past ss m k (l ∷ more) ts le (s, rest, p, q, at, is, made, e) = let both : [] ≡ s ∷ rest = sym (drop_past k ss le) ∙ at in absurd cc

  pub none_at_end : (ss : List StmtTree) (k : ℕ) → length ss ≤ k → NoStepBefore f (k ∷ []) ss → NoStep f ss
  none_at_end ss k le none m [] ts step = absurd step
  none_at_end ss k le none m (i ∷ more) ts step =
      ⊎_elim {C = ⊥} (λ lt. none m (i ∷ more) ts (inl lt) step) (λ ge. none_past ss m i more ts (omega arith) step) (cases_lt i k)
