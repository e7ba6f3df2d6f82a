-- In a file without variables, steps preserve what a program relates in tables.
use Rattle.std.proofs.Common.{◌≡◌, ◌<◌, ◌+◌, ℕ, ◌↔◌, length, sym, ap, ◌∙◌, subst, arith}
use Rattle.kat_model.specs.Expressions.{CondTree}
use Rattle.kat_model.specs.Relations.{Table, IsTable, frame_of, Relates, Keeps, Same}
use Rattle.goal_forms.specs.Laws.{DenoteOne, HoldsTriple}
use Rattle.goal_forms.proofs.Meanings.{goals_mean_lem}
use Rattle.while_lang.specs.Files.{FileParts, triple, prog_side}
use Rattle.while_lang.specs.Ranges.{IsCondInRange, IsProgInRange}
use Rattle.while_lang.specs.Programs.{ProgTree, stmts_of}
use Rattle.abstraction.specs.Tables.{Tables}
use Rattle.abstraction.specs.Tests.{cond_test}
use Rattle.abstraction.specs.Rounds.{tables_of}
use Rattle.abstraction.specs.Goals.{goal_sides}
use Rattle.abstraction.specs.Abstracts.{AbstractParts, with_goal, file_problem}
use Rattle.abstraction.proofs.DerivedHypotheses.{abstract_parts_of}
use Rattle.optimiser_steps.specs.Validity.{IsValid}
use Rattle.optimiser_steps.specs.Logs.{LogLineParts, FirstStep}
use Rattle.optimiser_steps.specs.Meanings.{declared_tables, prog_term, KeepsInTables}
use Rattle.optimiser_steps.proofs.Machines.{Machine, follow_leads}
use Rattle.optimiser_steps.proofs.RangesKept.{stmts_in}
use Rattle.optimiser_steps.proofs.StepsKept.{MeetsValid, steps_at_kept}
use Rattle.optimiser_steps.proofs.TermRelations.{machine_of, encoded_leads}
use Rattle.optimiser_steps.proofs.ClosedPrograms.{triple_tables, triple_hyps}

module _ (f : FileParts) (none : f.vars ≡ 0) (t : Table) (is : IsTable f.tests f.actions t) (keeps : Keeps t f.hyps) where
  abbrev InTable : Machine ℕ
  InTable = machine_of (frame_of t) (declared_tables f)

  -- a valid triple holds in the table
  valid_holds : (b : CondTree) (p : ProgTree) (c : CondTree) → IsCondInRange f.tests f.vars b → IsProgInRange f.tests f.actions f.vars p → IsCondInRange f.tests f.vars c →
      IsValid f b p c → HoldsTriple t (cond_test (declared_tables f) b) (prog_term f p) (cond_test (declared_tables f) c)
  valid_holds b p c in_b in_p in_c v =
      let posed = with_goal f (triple b (prog_side p) c) in
      let made = abstract_parts_of posed v.parts v.made in
      let same : Same (file_problem posed) = subst (λ (a : AbstractParts). Same a.problem) (sym made) v.same in
      let tables = triple_tables f none b p c in_b in_p in_c in
      let hyps = triple_hyps f none b p c in_b in_p in_c in
      let tests : (file_problem posed).tests ≡ f.tests = ap (λ (x : Tables). f.tests + length x.comparisons) tables ∙ omega arith in
      let actions : (file_problem posed).actions ≡ f.actions = ap (λ (x : Tables). f.actions + length x.assignments) tables ∙ omega arith in
      let one : DenoteOne t (goal_sides (tables_of posed) (triple b (prog_side p) c)) =
      same t (subst (λ n. IsTable n (file_problem posed).actions t) (sym tests) (subst (λ n. IsTable f.tests n t) (sym actions) is)) (subst (λ hs. Keeps t hs) (sym hyps) keeps) in
      (goals_mean_lem.triple t (cond_test (declared_tables f) b) (prog_term f p) (cond_test (declared_tables f) c)).0
      (subst (λ x. DenoteOne t (goal_sides x (triple b (prog_side p) c))) tables one)

  valid_meets : MeetsValid f InTable
  valid_meets b p c in_b in_p in_c v i j si sj h r =
      valid_holds b p c in_b in_p in_c v i j si sj h ((encoded_leads (frame_of t) (declared_tables f) p i si j sj).1 r)

  step_relates : (p q : ProgTree) (line : LogLineParts) → IsProgInRange f.tests f.actions f.vars p → FirstStep f p line q →
      (i j : ℕ) → i < t.states → j < t.states → Relates t (prog_term f p) i j ↔ Relates t (prog_term f q) i j
  step_relates p q line range first i j si sj =
      let kept = follow_leads InTable p q (steps_at_kept f InTable valid_meets line.step line.path (stmts_of p) (stmts_of q) (stmts_in f p range) first.made) i si j sj in
      let before = encoded_leads (frame_of t) (declared_tables f) p i si j sj in
      let after = encoded_leads (frame_of t) (declared_tables f) q i si j sj in
      ((λ r. after.1 (kept.0 (before.0 r))), (λ r. before.1 (kept.1 (after.0 r))))

pub step_keeps_in_tables : (f : FileParts) (p q : ProgTree) (line : LogLineParts) → IsProgInRange f.tests f.actions f.vars p → FirstStep f p line q → KeepsInTables f p q
step_keeps_in_tables f p q line range first none t is keeps = step_relates f none t is keeps p q line range first
