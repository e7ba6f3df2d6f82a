-- Notes that follow prove the triple: along each run of the program in a table that keeps the hypotheses, the note at
-- each place is true (Hoare 1969).
use Rattle.std.proofs.Common.{◌≡◌, ℕ, suc, ◌<◌, inl, inr, ⊎_elim, List, [], ◌∷◌, ◌++◌, Bool, true, false, refl, ap, subst}
use Rattle.std.proofs.lemmas.Bool.{not-true}
use Rattle.kat_model.specs.Trees.{TestTree, top, complement, Term, zero, test, product}
use Rattle.kat_model.specs.Members.{Has}
use Rattle.kat_model.specs.Problems.{ProblemParts}
use Rattle.kat_model.specs.Steps.{Atom, truth, out}
use Rattle.kat_model.specs.Balanced.{product_of}
use Rattle.kat_model.specs.Relations.{Table, atom_at, IsTable, frame_of, Along, RelatesIn, RelateInTurn, Relates, Keeps, Same}
use Rattle.kat_model.proofs.Lists.{has_left, has_right}
use Rattle.kat_model.proofs.ProductRelations.{product_of_relations}
use Rattle.goal_forms.specs.Sides.{SideTrees, failing_run}
use Rattle.while_lang.specs.Flows.{FlowTree, empty, skip_then, abort_then, assert_then, act_then, branch_then, loop_then}
use Rattle.while_lang.specs.Encoding.{stmt_terms, encoded}
use Rattle.outline_rules.specs.NoteLists.{NotesParts, note_holds}
use Rattle.goal_forms.specs.TestTerms.{IsAllowed, IsRuledOut}
use Rattle.outline_rules.specs.Tasks.{TaskParts, IsTripleOf}
use Rattle.outline_rules.specs.Places.{last_place}
use Rattle.outline_rules.specs.Follows.{Condition, starts, implies, leads, ends, conditions_from, conditions, IsMet, Follows}
use Rattle.goal_forms.proofs.StepForms.{test_relates, ruled_out_relates}

module _ (q : ProblemParts) (note : ℕ → Atom → Bool) (t : Table) (is_table : IsTable q.tests q.actions t) (keeps : Keeps t q.hyps) where
  abbrev AllMet : List Condition → Type 0
  AllMet cs = (c : Condition) → Has cs c → IsMet q note c

  first_met : (cs ds : List Condition) → AllMet (cs ++ ds) → AllMet cs
  first_met cs ds met c h = met c (has_left cs ds c h)

  rest_met : (cs ds : List Condition) → AllMet (cs ++ ds) → AllMet ds
  rest_met cs ds met c h = met c (has_right cs ds c h)

  -- the atoms of the table are allowed
  allowed : (i : ℕ) → i < t.states → IsAllowed q.hyps (atom_at t i)
  allowed i lt h has is_test = by_value (out h (atom_at t i)) refl
    where
      by_value : (b : Bool) → out h (atom_at t i) ≡ b → out h (atom_at t i) ≡ false
      by_value true e = absurd (keeps h has i i lt lt (test_relates (frame_of t) h i lt is_test e))
      by_value false e = e

  -- no move of the table is ruled out
  not_ruled_out : (a i j : ℕ) → i < t.states → j < t.states → (frame_of t).Acts a i j → IsRuledOut q.hyps a (atom_at t i) (atom_at t j) → ⊥
  not_ruled_out a i j li lj step r = keeps r.0 r.1 i j li lj (ruled_out_relates (frame_of t) r.0 a i j li lj r.2 step)

  -- a note implies another note under a test
  implied : (from to : ℕ) (b : TestTree) (i : ℕ) → i < t.states → IsMet q note (implies from b to) → note from (atom_at t i) ≡ true → truth b (atom_at t i) ≡ true → note to (atom_at t i) ≡ true
  implied from to b i lt met n h = met (atom_at t i) (is_table.wide i lt) (allowed i lt) n h

  led : (from a to i j : ℕ) → i < t.states → j < t.states → IsMet q note (leads from a to) → (frame_of t).Acts a i j → note from (atom_at t i) ≡ true → note to (atom_at t j) ≡ true
  led from a to i j li lj met step n = by_value (note to (atom_at t j)) refl
    where
      by_value : (b : Bool) → note to (atom_at t j) ≡ b → note to (atom_at t j) ≡ true
      by_value true e = e
      by_value false e = absurd (not_ruled_out a i j li lj step (met (atom_at t i) (atom_at t j) (is_table.wide i li) (is_table.wide j lj) (allowed i li) (allowed j lj) n e))

  moved : (n i j : ℕ) → i ≡ j → note n (atom_at t i) ≡ true → note n (atom_at t j) ≡ true
  moved n i j e h = subst (λ k. note n (atom_at t k) ≡ true) e h

  -- a body that keeps the invariant keeps it along each sequence of turns
  kept_along : (b : TestTree) (body : Term) (invariant : ℕ) →
      ((i j : ℕ) → i < t.states → j < t.states → truth b (atom_at t i) ≡ true → Relates t body i j → note invariant (atom_at t i) ≡ true → note invariant (atom_at t j) ≡ true) →
      (ks : List ℕ) (i j : ℕ) → i < t.states → Along (λ k. k < t.states) (RelatesIn (frame_of t) (product (test b) body)) i ks j → note invariant (atom_at t i) ≡ true → note invariant (atom_at t j) ≡ true
  kept_along b body invariant turn [] i j li r n = moved invariant i j r n
  kept_along b body invariant turn (k ∷ ks) i j li r n =
      let step = r.1 in
      let here : note invariant (atom_at t step.0) ≡ true = moved invariant i step.0 step.2.0 n in
      let holds : truth b (atom_at t step.0) ≡ true = subst (λ m. truth b (atom_at t m) ≡ true) step.2.0 step.2.1 in
      kept_along b body invariant turn ks k j r.0 r.2 (turn step.0 k step.1 r.0 holds step.3 here)

  -- a run that starts in the first note ends in the last note
  pub run_keeps : (f : FlowTree) (n i j : ℕ) → i < t.states → j < t.states → AllMet (conditions_from f n) → RelateInTurn (frame_of t) (stmt_terms f) i j → note n (atom_at t i) ≡ true → note (last_place f n) (atom_at t j) ≡ true
  run_keeps empty n i j li lj met r h = moved n i j r h
  run_keeps (skip_then rest) n i j li lj met r h =
      run_keeps rest (suc n) r.0 j r.1 lj (λ c k. met c (inr k)) r.3 (moved (suc n) i r.0 r.2 (implied n (suc n) top i li (met _ (inl refl)) h refl))
  run_keeps (abort_then rest) n i j li lj met r h = absurd r.2
  run_keeps (assert_then b rest) n i j li lj met r h =
      run_keeps rest (suc n) r.0 j r.1 lj (λ c k. met c (inr k)) r.3 (moved (suc n) i r.0 r.2.0 (implied n (suc n) b i li (met _ (inl refl)) h r.2.1))
  run_keeps (act_then a rest) n i j li lj met r h =
      run_keeps rest (suc n) r.0 j r.1 lj (λ c k. met c (inr k)) r.3 (led n a (suc n) i r.0 li r.1 (met _ (inl refl)) r.2 h)
  run_keeps (branch_then b f g rest) n i j li lj met r h =
      let second : ℕ = suc (last_place f (suc n)) in
      let after : ℕ = suc (last_place g second) in
      let first_conditions : List Condition = conditions_from f (suc n) in
      let second_conditions : List Condition = conditions_from g second in
      let ends_here : List Condition = implies (last_place f (suc n)) top after ∷ implies (last_place g second) top after ∷ conditions_from rest after in
      let second_part : List Condition = implies n (complement b) second ∷ (second_conditions ++ ends_here) in
      let later = rest_met first_conditions second_part (λ c k. met c (inr k)) in
      let last = rest_met second_conditions ends_here (λ c k. later c (inr k)) in
      let k : ℕ = r.0 in
      let reached : note after (atom_at t k) ≡ true =
      ⊎_elim
      (λ p.
      let start = moved (suc n) i p.0 p.2.0 (implied n (suc n) b i li (met _ (inl refl)) h p.2.1) in
      let run = (product_of_relations (frame_of t) (stmt_terms f) p.0 k p.1 r.1).0 p.3 in
      implied (last_place f (suc n)) after top k r.1 (last _ (inl refl))
      (run_keeps f (suc n) p.0 k p.1 r.1 (first_met first_conditions second_part (λ c m. met c (inr m))) run start) refl)
      (λ p.
      let start = moved second i p.0 p.2.0 (implied n second (complement b) i li (later _ (inl refl)) h p.2.1) in
      let run = (product_of_relations (frame_of t) (stmt_terms g) p.0 k p.1 r.1).0 p.3 in
      implied (last_place g second) after top k r.1 (last _ (inr (inl refl)))
      (run_keeps g second p.0 k p.1 r.1 (first_met second_conditions ends_here (λ c m. later c (inr m))) run start) refl)
      r.2 in
      run_keeps rest after k j r.1 lj (λ c m. last c (inr (inr m))) r.3 reached
  run_keeps (loop_then b f rest) n i j li lj met r h =
      let invariant : ℕ = suc n in
      let body : ℕ = suc invariant in
      let after : ℕ = suc (last_place f body) in
      let body_conditions : List Condition = conditions_from f body in
      let ends_here : List Condition = implies (last_place f body) top invariant ∷ implies invariant (complement b) after ∷ conditions_from rest after in
      let later = rest_met body_conditions ends_here (λ c k. met c (inr (inr k))) in
      let turn = λ (k m : ℕ) (lk : k < t.states) (lm : m < t.states) (holds : truth b (atom_at t k) ≡ true) (run : Relates t (product_of (stmt_terms f)) k m) (inside : note invariant (atom_at t k) ≡ true).
      implied (last_place f body) invariant top m lm (later _ (inl refl))
      (run_keeps f body k m lk lm (first_met body_conditions ends_here (λ c p. met c (inr (inr p)))) ((product_of_relations (frame_of t) (stmt_terms f) k m lk lm).0 run)
      (implied invariant body b k lk (met _ (inr (inl refl))) inside holds)) refl in
      let loop = r.2 in
      let entered = implied n invariant top i li (met _ (inl refl)) h refl in
      let left = kept_along b (product_of (stmt_terms f)) invariant turn loop.2.0 i loop.0 li loop.2.1 entered in
      let out_here = implied invariant after (complement b) loop.0 loop.1 (later _ (inr (inl refl))) left loop.3.1 in
      run_keeps rest after r.0 j r.1 lj (λ c m. later c (inr (inr m))) r.3 (moved after loop.0 r.0 loop.3.0 out_here)

  -- no run breaks the triple
  pub none_fails : (task : TaskParts) → AllMet (conditions task) → (i j : ℕ) → i < t.states → j < t.states → Relates t (failing_run task.pre (encoded task.flow) task.post) i j → ⊥
  none_fails task met i j li lj r =
      let k : ℕ = r.0 in
      let run = r.3 in
      let m : ℕ = run.0 in
      let start : note 0 (atom_at t i) ≡ true = met (starts task.pre) (inl refl) (atom_at t i) (is_table.wide i li) (allowed i li) r.2.1 in
      let inner : AllMet (conditions_from task.flow 0 ++ ends (last_place task.flow 0) task.post ∷ []) = λ c h. met c (inr h) in
      let last = run_keeps task.flow 0 k m r.1 run.1 (first_met (conditions_from task.flow 0) (ends (last_place task.flow 0) task.post ∷ []) inner) ((product_of_relations (frame_of t) (stmt_terms task.flow) k m r.1 run.1).0 run.2) (moved 0 i k r.2.0 start) in
      let post : truth task.post (atom_at t m) ≡ true = rest_met (conditions_from task.flow 0) (ends (last_place task.flow 0) task.post ∷ []) inner (ends (last_place task.flow 0) task.post) (inl refl) (atom_at t m) (is_table.wide m run.1) (allowed m run.1) last in
      let clash : truth task.post (atom_at t m) ≡ false = not-true (truth task.post (atom_at t m)) run.3.1 in
      cc

pub follows_same : (q : ProblemParts) (task : TaskParts) (ns : NotesParts) → IsTripleOf q task → Follows q task ns → Same q
follows_same q task ns triple follows t is_table keeps i j li lj =
    let left : q.left ≡ failing_run task.pre (encoded task.flow) task.post = ap (λ (s : SideTrees). s.left) triple in
    let right : q.right ≡ zero = ap (λ (s : SideTrees). s.right) triple in (
      (λ r. absurd (none_fails q (note_holds ns) t is_table keeps task follows.met i j li lj (subst (λ e. Relates t e i j) left r))),
      (λ r. absurd (subst (λ e. Relates t e i j) right r)),
    )
