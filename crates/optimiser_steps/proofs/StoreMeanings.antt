-- In a file without tests, actions, terms and stated hypotheses, steps preserve the stores in which a program ends.
use Rattle.std.proofs.Common.{◌≡◌, ℕ, zero, suc, ◌+◌, inl, inr, ⊎_elim, ◌↔◌, List, [], ◌∷◌, refl, sym, ap, ◌∙◌, subst, true, false, set}
use Rattle.std.proofs.lemmas.List.{length-set}
use Rattle.kat_model.specs.Expressions.{ExprTree, CondTree}
use Rattle.kat_model.specs.Stores.{Store, value, holds}
use Rattle.kat_model.specs.Problems.{AreInRange}
use Rattle.kat_model.specs.Relations.{Along}
use Rattle.linear_forms.proofs.StoredValues.{value_below}
use Rattle.while_lang.specs.Files.{FileParts, triple, prog_side}
use Rattle.while_lang.specs.Concrete.{IsStoreOf, IsConcrete, EndAlike}
use Rattle.while_lang.specs.Ranges.{IsProgInRange}
use Rattle.while_lang.specs.Programs.{ProgTree, empty, skip_then, abort_then, assert_then, act_then, assign_then, branch_then, loop_then, stmts_of}
use Rattle.while_lang.specs.Runs.{condition, Leaves, Turns, Goes, Ends}
use Rattle.while_lang.proofs.StoreValues.{set_is_store}
use Rattle.abstraction.specs.Abstracts.{with_goal, HasNumbersInRange}
use Rattle.while_lang.proofs.Choices.{chosen_parts, parts_chosen}
use Rattle.abstraction.proofs.Agreement.{same_agrees}
use Rattle.abstraction.proofs.DerivedHypotheses.{derived_hold}
use Rattle.optimiser_steps.specs.Logs.{LogLineParts, FirstStep}
use Rattle.optimiser_steps.specs.Meanings.{KeepsFromStores}
use Rattle.optimiser_steps.proofs.Machines.{Machine, Where, Repeats, Leads, follow_leads}
use Rattle.optimiser_steps.proofs.RangesKept.{stmts_in}
use Rattle.optimiser_steps.proofs.StepsKept.{MeetsValid, steps_at_kept}

-- the stores of a file, in which named actions lead nowhere
abbrev pub stores_of : FileParts → Machine Store
stores_of f = record {
  IsState = IsStoreOf f;
  holds = λ b s. holds f.width s b;
  Acts = λ a s u. ⊥;
  Sets = λ x e s u. u ≡ set s x (value f.width s e);
  of_always = λ s. refl;
  of_negation = λ b s. refl;
}

module _ (f : FileParts) where
  -- an assignment turns a store of the file into a store of the file
  set_store : (x : ℕ) (e : ExprTree) (s : Store) → IsStoreOf f s → IsStoreOf f (set s x (value f.width s e))
  set_store x e s is = (length-set s x (value f.width s e) ∙ is.0, set_is_store f.width s x (value f.width s e) is.1 (value_below f.width s e is.1))

  -- ---- runs of a program are related by `Leads`

  turns_lead : (b : CondTree) (p : ProgTree) → ((s : Store) (k : ℕ) (u : Store) → IsStoreOf f s → Goes f.width p s k u → IsStoreOf f u × Leads (stores_of f) p s u) →
      (n : ℕ) (s : Store) (k : ℕ) (u : Store) → IsStoreOf f s → Turns n (condition f.width b) (Goes f.width p) (Leaves (condition f.width b)) s k u →
      IsStoreOf f u × Repeats (stores_of f) b (Leads (stores_of f) p) s u
  turns_lead b p body zero s k u ss (h, (e, g)) = (subst (IsStoreOf f) (sym g) ss, ([], sym g, ap (condition f.width b) g ∙ h))
  turns_lead b p body (suc n) s k u ss (i, j, v, (l, h, g, e), later, d) =
      let first = body s l v ss g in
      let rest = turns_lead b p body n v j u first.0 later in
      (rest.0, (v ∷ rest.1.0, (first.0, (h, first.1), rest.1.1), rest.1.2))

  goes_lead : (p : ProgTree) (s : Store) (k : ℕ) (u : Store) → IsStoreOf f s → Goes f.width p s k u → IsStoreOf f u × Leads (stores_of f) p s u
  goes_lead empty s k u ss (e, g) = (subst (IsStoreOf f) (sym g) ss, sym g)
  goes_lead (skip_then rest) s k u ss g = let r = goes_lead rest s k u ss g in (r.0, (s, ss, refl, r.1))
  goes_lead (abort_then rest) s k u ss g = absurd g
  goes_lead (assert_then b rest) s k u ss (h, g) = let r = goes_lead rest s k u ss g in (r.0, (s, ss, (refl, h), r.1))
  goes_lead (act_then a rest) s k u ss g = absurd g
  goes_lead (assign_then x e rest) s k u ss g =
      let v = set s x (value f.width s e) in
      let sv = set_store x e s ss in
      let r = goes_lead rest v k u sv g in
      (r.0, (v, sv, refl, r.1))
  goes_lead (branch_then b p q rest) s k u ss (i, j, v, g, c, e) =
      ⊎_elim {C = IsStoreOf f u × Leads (stores_of f) (branch_then b p q rest) s u}
      (λ h.
      let first = goes_lead p s i v ss h.1 in
      let r = goes_lead rest v j u first.0 c in
      (r.0, (v, first.0, inl (h.0, first.1), r.1)))
      (λ h.
      let first = goes_lead q s i v ss h.1 in
      let r = goes_lead rest v j u first.0 c in
      (r.0, (v, first.0, inr (h.0, first.1), r.1)))
      (chosen_parts (condition f.width b s) g)
  goes_lead (loop_then b p rest) s k u ss (i, j, v, (n, g), c, e) =
      let turns = turns_lead b p (λ x l y sx h. goes_lead p x l y sx h) n s i v ss g in
      let r = goes_lead rest v j u turns.0 c in
      (r.0, (v, turns.0, turns.1, r.1))

  -- ---- stores related by `Leads` have runs

  along_turns : (b : CondTree) (p : ProgTree) → ((s u : Store) → IsStoreOf f s → IsStoreOf f u → Leads (stores_of f) p s u → Ends f.width p s u) →
      (ks : List Store) (s u : Store) → IsStoreOf f s → IsStoreOf f u → holds f.width u b ≡ false → Along (IsStoreOf f) (Where (stores_of f) b true (Leads (stores_of f) p)) s ks u →
      (n k : ℕ) × Turns n (condition f.width b) (Goes f.width p) (Leaves (condition f.width b)) s k u
  along_turns b p body [] s u ss su h r = (0, 0, (ap (condition f.width b) r ∙ h, (refl, sym r)))
  along_turns b p body (v ∷ ks) s u ss su h r =
      let first = body s v ss r.0 r.1.1 in
      let rest = along_turns b p body ks v u r.0 su h r.2 in
      (suc rest.0, first.0 + 1 + rest.1, (first.0 + 1, rest.1, v, (first.0, r.1.0, first.1, refl), rest.2, refl))

  leads_end : (p : ProgTree) (s u : Store) → IsStoreOf f s → IsStoreOf f u → Leads (stores_of f) p s u → Ends f.width p s u
  leads_end empty s u ss su r = (0, (refl, sym r))
  leads_end (skip_then rest) s u ss su r = leads_end rest s u ss su (subst (λ v. Leads (stores_of f) rest v u) (sym r.2) r.3)
  leads_end (abort_then rest) s u ss su r = absurd r.2
  leads_end (assert_then b rest) s u ss su r =
      let later = leads_end rest s u ss su (subst (λ v. Leads (stores_of f) rest v u) (sym r.2.0) r.3) in
      (later.0, (r.2.1, later.1))
  leads_end (act_then a rest) s u ss su r = absurd r.2
  leads_end (assign_then x e rest) s u ss su r =
      leads_end rest (set s x (value f.width s e)) u (set_store x e s ss) su (subst (λ v. Leads (stores_of f) rest v u) r.2 r.3)
  leads_end (branch_then b p q rest) s u ss su r =
      let later = leads_end rest r.0 u r.1 su r.3 in
      ⊎_elim {C = Ends f.width (branch_then b p q rest) s u}
      (λ h.
      let first = leads_end p s r.0 ss r.1 h.1 in
      (first.0 + later.0, (first.0, later.0, r.0, parts_chosen (condition f.width b s) (inl (h.0, first.1)), later.1, refl)))
      (λ h.
      let first = leads_end q s r.0 ss r.1 h.1 in
      (first.0 + later.0, (first.0, later.0, r.0, parts_chosen (condition f.width b s) (inr (h.0, first.1)), later.1, refl)))
      r.2
  leads_end (loop_then b p rest) s u ss su r =
      let later = leads_end rest r.0 u r.1 su r.3 in
      let turns = along_turns b p (λ x y sx sy h. leads_end p x y sx sy h) r.2.0 s r.0 ss r.1 r.2.2 r.2.1 in
      (turns.1 + later.0, (turns.1, later.0, r.0, (turns.0, turns.2), later.1, refl))

  -- a program ends in exactly the stores to which it leads
  ends_where_leads : (p : ProgTree) (s u : Store) → IsStoreOf f s → IsStoreOf f u → Ends f.width p s u ↔ Leads (stores_of f) p s u
  ends_where_leads p s u ss su = ((λ g. (goes_lead p s g.0 u ss g.1).1), leads_end p s u ss su)

  -- ---- steps

  module _ (hyps : AreInRange f.tests f.actions f.hyps) (no_tests : f.tests ≡ 0) (no_actions : f.actions ≡ 0) (no_terms : f.terms ≡ 0) (no_hyps : f.hyps ≡ []) where
    -- a valid triple is met from every store
    valid_meets : MeetsValid f (stores_of f)
    valid_meets b p c in_b in_p in_c v s u ss su h r =
        let posed = with_goal f (triple b (prog_side p) c) in
        let range : HasNumbersInRange posed = record { hyps = hyps; goal = (in_b, in_p, in_c) } in
        let concrete : IsConcrete posed = record { tests = no_tests; actions = no_actions; terms = no_terms; hyps = no_hyps; poses = tt } in
        same_agrees posed v.parts range v.made (derived_hold posed v.parts range v.made) concrete v.same s u ss su h (leads_end p s u ss su r)

    step_ends : (p q : ProgTree) (line : LogLineParts) → IsProgInRange f.tests f.actions f.vars p → FirstStep f p line q → EndAlike f p q
    step_ends p q line range first s u ss su =
        let kept = follow_leads (stores_of f) p q (steps_at_kept f (stores_of f) valid_meets line.step line.path (stmts_of p) (stmts_of q) (stmts_in f p range) first.made) s ss u su in
        let before = ends_where_leads p s u ss su in
        let after = ends_where_leads q s u ss su in
        ((λ g. after.1 (kept.0 (before.0 g))), (λ g. before.1 (kept.1 (after.0 g))))

pub step_keeps_from_stores : (f : FileParts) (p q : ProgTree) (line : LogLineParts) → AreInRange f.tests f.actions f.hyps → IsProgInRange f.tests f.actions f.vars p → FirstStep f p line q → KeepsFromStores f p q
step_keeps_from_stores f p q line hyps range first no_tests no_actions no_terms no_hyps = step_ends f hyps no_tests no_actions no_terms no_hyps p q line range first
