-- The final result of the optimiser.
use Rattle.std.proofs.Common.{◌≡◌, ◌↔◌, ℕ, List, [], ◌∷◌, ◌++◌, map, refl, sym, ◌∙◌, subst}
use Rattle.while_lang.specs.Files.{FileParts}
use Rattle.while_lang.specs.Programs.{ProgTree, StmtTree, prog_of, stmts_of}
use Rattle.while_lang.specs.ProgramViews.{stmt_tree, list_tree}
use Rattle.while_lang.proofs.ProgramLists.{stmts_of-prog_of}
use Rattle.optimiser_steps.specs.Paths.{NoStep, IsFirstStep}
use Rattle.optimiser_steps.specs.Logs.{LogLineParts, FirstStep, IsLog, IsFinished, HasStep}
use Rattle.optimiser_steps.specs.Working.Found.{IsFirst}
use Rattle.optimiser_steps.specs.declared.paths.Found.{Found}
use Rattle.optimiser_steps.specs.declared.optimising.Ended.{Ended}
use Rattle.optimiser_steps.specs.declared.optimising.Ended.TheVariants.{Done, TurnLimit}

module _ (f : FileParts) where
  -- a first step of the statement list of a program is a first step of the program
  pub step_to : (p : ProgTree) (path : List ℕ) (n : ℕ) (ss ts : List StmtTree) → stmts_of p ≡ ss → IsFirstStep f ss path n ts → FirstStep f p (record { step = n; path = path }) (prog_of ts)
  step_to p path n ss ts e first =
      subst (λ us. IsFirstStep f (stmts_of p) path n us) (sym (stmts_of-prog_of ts)) (subst (λ us. IsFirstStep f us path n ts) (sym e) first)

  -- a step of the statement list of a program is a step of the program; if the list has none, the program is finished
  pub finished_by_list : (p : ProgTree) (ss : List StmtTree) → stmts_of p ≡ ss → NoStep f ss → IsFinished f p
  finished_by_list p ss e none = subst (NoStep f) (sym e) none

  pub step_by_list : (p : ProgTree) (ss : List StmtTree) (m : Found) → stmts_of p ≡ ss → IsFirst f ss m → FirstStep f p (record { step = m.step; path = m.path.items }) (list_tree m.list.items)
  step_by_list p ss m e first = step_to p m.path.items m.step ss (map stmt_tree m.list.items) e first

  pub has_by_list : (p : ProgTree) (ss : List StmtTree) (m : Found) → stmts_of p ≡ ss → IsFirst f ss m → HasStep f p
  has_by_list p ss m e first = (record { step = m.step; path = m.path.items }, list_tree m.list.items, step_by_list p ss m e first)

  -- a log extended by a step
  pub log_grows : (p q r : ProgTree) (log : List LogLineParts) (line : LogLineParts) → IsLog f p log q → FirstStep f q line r → IsLog f p (log ++ line ∷ []) r
  log_grows p q r [] line e first = (r, subst (λ x. FirstStep f x line r) (sym e) first, refl)
  log_grows p q r (l ∷ log) line (s, step, rest) first = (s, step, log_grows s q r log line rest first)

  no_step_left : (q : ProgTree) → IsFinished f q → HasStep f q → ⊥
  no_step_left q finished (line, r, first) = finished line.step line.path (stmts_of r) first.made

  -- the result if no step is possible
  pub done_at_end : (q : ProgTree) (e : Ended) → e ≡ Done → IsFinished f q → (e ≡ Done) ↔ IsFinished f q
  done_at_end q e is finished = ((λ d. finished), (λ d. is))

  pub limit_at_end : (q : ProgTree) (e : Ended) (A : Type 0) → e ≡ Done → IsFinished f q → (e ≡ TurnLimit) ↔ (A × HasStep f q)
  limit_at_end q e A is finished = ((λ d. let differ : Done ≡ TurnLimit = sym is ∙ d in absurd cc), (λ h. absurd (no_step_left q finished h.1)))

  -- the result if the turns are used up
  pub done_at_limit : (q : ProgTree) (e : Ended) → e ≡ TurnLimit → HasStep f q → (e ≡ Done) ↔ IsFinished f q
  done_at_limit q e is has = ((λ d. let differ : TurnLimit ≡ Done = sym is ∙ d in absurd cc), (λ finished. absurd (no_step_left q finished has)))

  pub limit_at_limit : (q : ProgTree) (e : Ended) (A : Type 0) → e ≡ TurnLimit → A → HasStep f q → (e ≡ TurnLimit) ↔ (A × HasStep f q)
  limit_at_limit q e A is a has = ((λ d. (a, has)), (λ h. is))
