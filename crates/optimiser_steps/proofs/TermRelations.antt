-- The term of a program relates exactly the states of a frame between which the program leads.
use Rattle.std.proofs.Common.{◌≡◌, inl, inr, ⊎_elim, ◌↔◌, refl, sym, subst, true, false}
use Rattle.std.proofs.lemmas.Bool.{not-true, not_from_false}
use Rattle.kat_model.specs.Trees.{TestTree, complement, Term, test, product}
use Rattle.kat_model.specs.Steps.{truth}
use Rattle.kat_model.specs.Stores.{modulus}
use Rattle.kat_model.specs.Expressions.{CondTree}
use Rattle.kat_model.specs.Relations.{Frame, Along, RelatesIn, RelateInTurn}
use Rattle.kat_model.proofs.ProductRelations.{product_of_relations}
use Rattle.linear_forms.specs.Arithmetic.{normal_form}
use Rattle.while_lang.specs.Programs.{ProgTree, empty, skip_then, abort_then, assert_then, act_then, assign_then, branch_then, loop_then}
use Rattle.while_lang.specs.Encoding.{branch_term, loop_term, stmt_terms, encoded}
use Rattle.abstraction.specs.Tables.{Tables}
use Rattle.abstraction.specs.Tests.{cond_test, assignment_action, prog_flow}
use Rattle.optimiser_steps.proofs.Machines.{Machine, Then, Stays, Passes, Where, Chooses, Repeats, Leads, Alike, same, through, then_alike, along_kept}

-- the machine of a frame whose conditions and assignments are read with tables
abbrev pub machine_of : {S : Type 0} → Frame S → Tables → Machine S
machine_of frame t = record {
  IsState = frame.IsState;
  holds = λ b i. truth (cond_test t b) (frame.atom i);
  Acts = frame.Acts;
  Sets = λ x e. frame.Acts (assignment_action t (record { var = x; form = normal_form (modulus t.width) e }));
  of_always = λ i. refl;
  of_negation = λ b i. refl;
}

module _ {S : Type 0} (frame : Frame S) (t : Tables) where
  -- the term of a condition before another term: the condition holds and the term relates
  guarded : (b : TestTree) (e : Term) (R : S → S → Type 0) → Alike (machine_of frame t) (RelatesIn frame e) R → (i j : S) → frame.IsState i → frame.IsState j →
      RelatesIn frame (product (test b) e) i j ↔ ((truth b (frame.atom i) ≡ true) × R i j)
  guarded b e R a i j si sj = (
    (λ r. (r.2.1, (a i si j sj).0 (subst (λ k. RelatesIn frame e k j) (sym r.2.0) r.3))),
    (λ r. (i, si, (refl, r.0), (a i si j sj).1 r.1)),
  )

  branch_related : (b : CondTree) (d e : Term) (R Q : S → S → Type 0) → Alike (machine_of frame t) (RelatesIn frame d) R → Alike (machine_of frame t) (RelatesIn frame e) Q →
      Alike (machine_of frame t) (RelatesIn frame (branch_term (cond_test t b) d e)) (Chooses (machine_of frame t) b R Q)
  branch_related b d e R Q x y i si j sj =
      let c = cond_test t b in
      let first = guarded c d R x i j si sj in
      let second = guarded (complement c) e Q y i j si sj in (
        (λ r. ⊎_elim {C = Chooses (machine_of frame t) b R Q i j} (λ h. inl (first.0 h))
            (λ h. let p = second.0 h in inr (not-true (truth c (frame.atom i)) p.0, p.1)) r),
        (λ r. ⊎_elim {C = RelatesIn frame (branch_term c d e) i j} (λ h. inl (first.1 h))
            (λ h. inr (second.1 (not_from_false (truth c (frame.atom i)) h.0, h.1))) r),
      )

  loop_related : (b : CondTree) (e : Term) (R : S → S → Type 0) → Alike (machine_of frame t) (RelatesIn frame e) R →
      Alike (machine_of frame t) (RelatesIn frame (loop_term (cond_test t b) e)) (Repeats (machine_of frame t) b R)
  loop_related b e R a i si j sj = (
    (λ r.
        let along = along_kept (machine_of frame t) (λ s. Unit {0}) (RelatesIn frame (product (test (cond_test t b)) e)) (Where (machine_of frame t) b true R)
        (λ l k sl sk u h. ((guarded (cond_test t b) e R a l k sl sk).0 h, tt)) r.2.0 i r.0 si tt r.2.1 in
        let end : r.0 ≡ j = r.3.0 in
        let fails = not-true (truth (cond_test t b) (frame.atom r.0)) r.3.1 in
        (r.2.0, subst (λ s. Along frame.IsState (Where (machine_of frame t) b true R) i r.2.0 s) end along, subst (λ s. truth (cond_test t b) (frame.atom s) ≡ false) end fails)),
    (λ r.
        let along = along_kept (machine_of frame t) (λ s. Unit {0}) (Where (machine_of frame t) b true R) (RelatesIn frame (product (test (cond_test t b)) e))
        (λ l k sl sk u h. ((guarded (cond_test t b) e R a l k sl sk).1 h, tt)) r.0 i j si tt r.1 in
        (j, sj, (r.0, along), (refl, not_from_false (truth (cond_test t b) (frame.atom j)) r.2))),
  )

  with_rest : (rest : ProgTree) (R Q : S → S → Type 0) → Alike (machine_of frame t) R Q →
      Alike (machine_of frame t) (RelateInTurn frame (stmt_terms (prog_flow t rest))) (Leads (machine_of frame t) rest) →
      Alike (machine_of frame t) (Then (machine_of frame t) R (RelateInTurn frame (stmt_terms (prog_flow t rest)))) (Then (machine_of frame t) Q (Leads (machine_of frame t) rest))
  with_rest rest R Q = then_alike (machine_of frame t) R Q (RelateInTurn frame (stmt_terms (prog_flow t rest))) (Leads (machine_of frame t) rest)

  -- the term of a program relates two states exactly when its statements do in sequence
  whole : (p : ProgTree) → Alike (machine_of frame t) (RelateInTurn frame (stmt_terms (prog_flow t p))) (Leads (machine_of frame t) p) →
      Alike (machine_of frame t) (RelatesIn frame (encoded (prog_flow t p))) (Leads (machine_of frame t) p)
  whole p a =
      through (machine_of frame t) (RelatesIn frame (encoded (prog_flow t p))) (RelateInTurn frame (stmt_terms (prog_flow t p))) (Leads (machine_of frame t) p)
      (λ i si j sj. product_of_relations frame (stmt_terms (prog_flow t p)) i j si sj) a

  -- the terms of the statements, in sequence, relate the states between which the program leads
  in_turn_leads : (p : ProgTree) → Alike (machine_of frame t) (RelateInTurn frame (stmt_terms (prog_flow t p))) (Leads (machine_of frame t) p)
  in_turn_leads empty = same (machine_of frame t) (Stays (machine_of frame t))
  in_turn_leads (skip_then rest) = with_rest rest (Stays (machine_of frame t)) (Stays (machine_of frame t)) (same (machine_of frame t) (Stays (machine_of frame t))) (in_turn_leads rest)
  in_turn_leads (abort_then rest) = with_rest rest (λ i j. ⊥) (λ i j. ⊥) (same (machine_of frame t) (λ i j. ⊥)) (in_turn_leads rest)
  in_turn_leads (assert_then b rest) = with_rest rest (Passes (machine_of frame t) b) (Passes (machine_of frame t) b) (same (machine_of frame t) (Passes (machine_of frame t) b)) (in_turn_leads rest)
  in_turn_leads (act_then a rest) = with_rest rest (frame.Acts a) (frame.Acts a) (same (machine_of frame t) (frame.Acts a)) (in_turn_leads rest)
  in_turn_leads (assign_then x e rest) =
      let R = (machine_of frame t).Sets x e in
      with_rest rest R R (same (machine_of frame t) R) (in_turn_leads rest)
  in_turn_leads (branch_then b p q rest) =
      with_rest rest (RelatesIn frame (branch_term (cond_test t b) (encoded (prog_flow t p)) (encoded (prog_flow t q)))) (Chooses (machine_of frame t) b (Leads (machine_of frame t) p) (Leads (machine_of frame t) q))
      (branch_related b (encoded (prog_flow t p)) (encoded (prog_flow t q)) (Leads (machine_of frame t) p) (Leads (machine_of frame t) q) (whole p (in_turn_leads p)) (whole q (in_turn_leads q)))
      (in_turn_leads rest)
  in_turn_leads (loop_then b p rest) =
      with_rest rest (RelatesIn frame (loop_term (cond_test t b) (encoded (prog_flow t p)))) (Repeats (machine_of frame t) b (Leads (machine_of frame t) p))
      (loop_related b (encoded (prog_flow t p)) (Leads (machine_of frame t) p) (whole p (in_turn_leads p)))
      (in_turn_leads rest)

  pub encoded_leads : (p : ProgTree) → Alike (machine_of frame t) (RelatesIn frame (encoded (prog_flow t p))) (Leads (machine_of frame t) p)
  encoded_leads p = whole p (in_turn_leads p)
