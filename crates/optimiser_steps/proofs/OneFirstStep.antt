-- A list of statements has at most one first step.
use Rattle.std.proofs.Common.{◌≡◌, ℕ, ◌⊎◌, inl, inr, ⊎_elim, List, [], ◌∷◌, ◌++◌, take, drop, refl, sym, ap, ◌∙◌, subst, arith}
use Rattle.std.proofs.lemmas.Bool.{cases_lt}
use Rattle.std.proofs.lemmas.Option.{same_Some}
use mathlib.Core.Path.{ap₂}
use Rattle.while_lang.specs.Files.{FileParts}
use Rattle.while_lang.specs.Programs.{ProgTree, empty, branch_then, loop_then, StmtTree, skip, abort, assert, branch, loop, prog_of, stmts_of}
use Rattle.while_lang.proofs.BlockMeasures.{prog_of-stmts_of}
use Rattle.optimiser_steps.specs.Statements.{block}
use Rattle.optimiser_steps.specs.Steps.{LeavesOutSkip, LeavesOutUnreached, LeavesOutAssert, TakesFirstBlock, TakesSecondBlock, LeavesOutLoop, TakesEitherBlock, SharesLastStatement, TakesFirstBlockAfter, TakesSecondBlockAfter, UnswitchesLoop, FlattensLoop, step_relations, Step}
use Rattle.optimiser_steps.specs.Paths.{StepsAt, IsBefore, IsFirstStep}
use Rattle.optimiser_steps.specs.Logs.{LogLineParts, FirstStep}
use Rattle.optimiser_steps.proofs.NumberedSteps.{SomeHold, some_hold}

no_last : {X : Type 0} (xs : List X) (x : X) → xs ++ x ∷ [] ≡ [] → ⊥
no_last [] x e = cc
no_last (y ∷ xs) x e = cc

-- if two lists with an element appended are equal, so are the lists and the elements
pub last_same : {X : Type 0} (xs ys : List X) (x y : X) → xs ++ x ∷ [] ≡ ys ++ y ∷ [] → (xs ≡ ys) × (x ≡ y)
last_same [] [] x y e = (refl, cc)
last_same [] (b ∷ ys) x y e = let rest : [] ≡ ys ++ y ∷ [] = cc in absurd (no_last ys y (sym rest))
last_same (a ∷ xs) [] x y e = let rest : xs ++ x ∷ [] ≡ [] = cc in absurd (no_last xs x rest)
last_same (a ∷ xs) (b ∷ ys) x y e =
    let tail : xs ++ x ∷ [] ≡ ys ++ y ∷ [] = cc in
    let head : a ≡ b = cc in
    let both = last_same xs ys x y tail in
    (ap₂ ◌∷◌ head both.0, both.1)

-- programs with equal statements are equal
pub same_progs : (p q : ProgTree) → stmts_of p ≡ stmts_of q → p ≡ q
same_progs p q e = sym (prog_of-stmts_of p) ∙ ap prog_of e ∙ prog_of-stmts_of q

module _ (f : FileParts) where
  -- each step takes a list to at most one list

  one_skip : (ss ts us : List StmtTree) → LeavesOutSkip ss ts → LeavesOutSkip ss us → ts ≡ us
  one_skip (skip ∷ rest) ts us d e = d ∙ sym e
  one_skip _ ts us d e = absurd d

  one_unreached : (ss ts us : List StmtTree) → LeavesOutUnreached ss ts → LeavesOutUnreached ss us → ts ≡ us
  one_unreached (abort ∷ s ∷ rest) ts us d e = d ∙ sym e
  one_unreached _ ts us d e = absurd d

  one_assert : (ss ts us : List StmtTree) → LeavesOutAssert f ss ts → LeavesOutAssert f ss us → ts ≡ us
  one_assert (assert b ∷ rest) ts us d e = d.1 ∙ sym e.1
  one_assert _ ts us d e = absurd d

  one_first : (ss ts us : List StmtTree) → TakesFirstBlock f ss ts → TakesFirstBlock f ss us → ts ≡ us
  one_first (branch b p q ∷ rest) ts us d e = d.1 ∙ sym e.1
  one_first _ ts us d e = absurd d

  one_second : (ss ts us : List StmtTree) → TakesSecondBlock f ss ts → TakesSecondBlock f ss us → ts ≡ us
  one_second (branch b p q ∷ rest) ts us d e = d.1 ∙ sym e.1
  one_second _ ts us d e = absurd d

  one_loop : (ss ts us : List StmtTree) → LeavesOutLoop f ss ts → LeavesOutLoop f ss us → ts ≡ us
  one_loop (loop b p ∷ rest) ts us d e = d.1 ∙ sym e.1
  one_loop _ ts us d e = absurd d

  one_either : (ss ts us : List StmtTree) → TakesEitherBlock ss ts → TakesEitherBlock ss us → ts ≡ us
  one_either (branch b p q ∷ rest) ts us d e = d.1 ∙ sym e.1
  one_either _ ts us d e = absurd d

  one_shared : (ss ts us : List StmtTree) → SharesLastStatement ss ts → SharesLastStatement ss us → ts ≡ us
  one_shared (branch b p q ∷ rest) ts us (ps, qs, r, ep, eq, e) (xs, ys, t, ex, ey, d) =
      let first = last_same ps xs r t (sym ep ∙ ex) in
      let second = last_same qs ys r t (sym eq ∙ ey) in
      e ∙ rw (first.0, first.1, second.0) (sym d)
  one_shared _ ts us d e = absurd d

  one_first_after : (ss ts us : List StmtTree) → TakesFirstBlockAfter f ss ts → TakesFirstBlockAfter f ss us → ts ≡ us
  one_first_after (s ∷ branch c p q ∷ rest) ts us d e = d.1 ∙ sym e.1
  one_first_after _ ts us d e = absurd d

  one_second_after : (ss ts us : List StmtTree) → TakesSecondBlockAfter f ss ts → TakesSecondBlockAfter f ss us → ts ≡ us
  one_second_after (s ∷ branch c p q ∷ rest) ts us d e = d.1 ∙ sym e.1
  one_second_after (s ∷ loop c p ∷ rest) ts us d e = d.1 ∙ sym e.1
  one_second_after _ ts us d e = absurd d

  one_unswitched : (ss ts us : List StmtTree) → UnswitchesLoop f ss ts → UnswitchesLoop f ss us → ts ≡ us
  one_unswitched (loop b (branch_then c p q empty) ∷ rest) ts us d e = d.2 ∙ sym e.2
  one_unswitched _ ts us d e = absurd d

  one_flattened : (ss ts us : List StmtTree) → FlattensLoop ss ts → FlattensLoop ss us → ts ≡ us
  one_flattened (loop b (loop_then c p empty) ∷ rest) ts us d e = d.1 ∙ sym e.1
  one_flattened (loop b (branch_then c p q empty) ∷ rest) ts us d e = d.1 ∙ sym e.1
  one_flattened _ ts us d e = absurd d

  one_step : (n : ℕ) (ss ts us : List StmtTree) → Step f n ss ts → Step f n ss us → ts ≡ us
  one_step n ss ts us d e = by_case (some_hold n (step_relations f ss ts) (step_relations f ss us) d e)
    where
      by_case : SomeHold (step_relations f ss ts) (step_relations f ss us) → ts ≡ us
      by_case (inl x) = one_skip ss ts us x.0 x.1
      by_case (inr (inl x)) = one_unreached ss ts us x.0 x.1
      by_case (inr (inr (inl x))) = one_assert ss ts us x.0 x.1
      by_case (inr (inr (inr (inl x)))) = one_first ss ts us x.0 x.1
      by_case (inr (inr (inr (inr (inl x))))) = one_second ss ts us x.0 x.1
      by_case (inr (inr (inr (inr (inr (inl x)))))) = one_loop ss ts us x.0 x.1
      by_case (inr (inr (inr (inr (inr (inr (inl x))))))) = one_either ss ts us x.0 x.1
      by_case (inr (inr (inr (inr (inr (inr (inr (inl x)))))))) = one_shared ss ts us x.0 x.1
      by_case (inr (inr (inr (inr (inr (inr (inr (inr (inl x))))))))) = one_first_after ss ts us x.0 x.1
      by_case (inr (inr (inr (inr (inr (inr (inr (inr (inr (inl x)))))))))) = one_second_after ss ts us x.0 x.1
      by_case (inr (inr (inr (inr (inr (inr (inr (inr (inr (inr (inl x))))))))))) = one_unswitched ss ts us x.0 x.1
      by_case (inr (inr (inr (inr (inr (inr (inr (inr (inr (inr (inr (inl x)))))))))))) = one_flattened ss ts us x.0 x.1
      by_case (inr (inr (inr (inr (inr (inr (inr (inr (inr (inr (inr (inr x)))))))))))) = absurd x

  -- the same for a step at a path
  pub one_at : (n : ℕ) (path : List ℕ) (ss ts us : List StmtTree) → StepsAt f n path ss ts → StepsAt f n path ss us → ts ≡ us
  one_at n [] ss ts us d e = absurd d
  one_at n (k ∷ []) ss ts us (new, step, e) (other, made, d) = e ∙ ap (λ (l : List StmtTree). take k ss ++ l) (one_step n (drop k ss) new other step made) ∙ sym d
  one_at n (k ∷ j ∷ path) ss ts us (s, rest, p, q, at, is, made, e) (s', rest', p', q', at', is', made', e') =
      let whole : s ∷ rest ≡ s' ∷ rest' = sym at ∙ at' in
      let same_s : s ≡ s' = cc in
      let same_rest : rest ≡ rest' = cc in
      let same_p : p ≡ p' = same_Some p p' (sym is ∙ ap (λ (x : StmtTree). block x j) same_s ∙ is') in
      let other : StepsAt f n path (stmts_of p) (stmts_of q') = subst (λ x. StepsAt f n path (stmts_of x) (stmts_of q')) (sym same_p) made' in
      let same_q : q ≡ q' = same_progs q q' (one_at n path (stmts_of p) (stmts_of q) (stmts_of q') made other) in
      e ∙ rw (same_s, same_rest, same_q) (sym e')

  -- two places are equal, or one comes before the other
  abbrev Ordered : List ℕ → List ℕ → Type 0
  Ordered xs ys = (xs ≡ ys) ⊎ (IsBefore xs ys ⊎ IsBefore ys xs)

  one_further : (x y : ℕ) (xs ys : List ℕ) → x ≡ y → Ordered xs ys → Ordered (x ∷ xs) (y ∷ ys)
  one_further x y xs ys e (inl d) = inl (ap₂ ◌∷◌ e d)
  one_further x y xs ys e (inr (inl b)) = inr (inl (inr (e, b)))
  one_further x y xs ys e (inr (inr b)) = inr (inr (inr (sym e, b)))

  in_order : (xs ys : List ℕ) → Ordered xs ys
  in_order [] [] = inl refl
  in_order [] (y ∷ ys) = inr (inl tt)
  in_order (x ∷ xs) [] = inr (inr tt)
  in_order (x ∷ xs) (y ∷ ys) =
      ⊎_elim {C = Ordered (x ∷ xs) (y ∷ ys)}
      (λ lt. inr (inl (inl lt)))
      (λ le. ⊎_elim {C = Ordered (x ∷ xs) (y ∷ ys)} (λ lt. inr (inr (inl lt))) (λ ge. one_further x y xs ys (omega arith) (in_order xs ys)) (cases_lt y x))
      (cases_lt x y)

  pub one_first_step : (ss ts us : List StmtTree) (path other : List ℕ) (n m : ℕ) → IsFirstStep f ss path n ts → IsFirstStep f ss other m us → (path ≡ other) × (n ≡ m) × (ts ≡ us)
  one_first_step ss ts us path other n m a b =
      ⊎_elim {C = (path ≡ other) × (n ≡ m) × (ts ≡ us)}
      (λ e. same_path e)
      (λ o. ⊎_elim {C = (path ≡ other) × (n ≡ m) × (ts ≡ us)} (λ before. absurd (b.first n path ts before a.made)) (λ before. absurd (a.first m other us before b.made)) o)
      (in_order path other)
    where
      same_path : path ≡ other → (path ≡ other) × (n ≡ m) × (ts ≡ us)
      same_path e =
          let made : StepsAt f m path ss us = subst (λ l. StepsAt f m l ss us) (sym e) b.made in
          ⊎_elim {C = (path ≡ other) × (n ≡ m) × (ts ≡ us)}
          (λ lt. absurd (b.least n ts lt (subst (λ l. StepsAt f n l ss ts) e a.made)))
          (λ le. ⊎_elim {C = (path ≡ other) × (n ≡ m) × (ts ≡ us)} (λ lt. absurd (a.least m us lt made))
          (λ ge. let one : n ≡ m = omega arith in (e, one, one_at n path ss ts us a.made (subst (λ k. StepsAt f k path ss us) (sym one) made))) (cases_lt m n))
          (cases_lt n m)

  pub first_step_is_one_lem : (p q r : ProgTree) (line other : LogLineParts) → FirstStep f p line q → FirstStep f p other r → (line ≡ other) × (q ≡ r)
  first_step_is_one_lem p q r line other a b =
      let one = one_first_step (stmts_of p) (stmts_of q) (stmts_of r) line.path other.path line.step other.step a b in
      (same_line one.0 one.1, same_progs q r one.2)
    where
      same_line : line.path ≡ other.path → line.step ≡ other.step → line ≡ other
      same_line e d = ap₂ (λ (n : ℕ) (path : List ℕ). let l : LogLineParts = record { step = n; path = path } in l) d e
