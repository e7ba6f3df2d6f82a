-- Under a reading, a program leads from one store of a file to another exactly when its term relates them in the frame of
-- the reading.
use Rattle.std.proofs.Common.{◌≡◌, ℕ, inl, inr, ⊎_elim, ◌↔◌, List, [], ◌∷◌, ◌++◌, map, refl, sym, ap, ◌∙◌, subst, true, false, not, ◌&&◌, ◌||◌, set, slice_get}
use mathlib.Core.Path.{ap₂}
use Rattle.std.proofs.lemmas.Bool.{not-true, not_from_false}
use Rattle.kat_model.specs.Trees.{complement, test, product}
use Rattle.kat_model.specs.Steps.{truth}
use Rattle.kat_model.specs.Members.{Has, IsSubset}
use Rattle.kat_model.specs.Expressions.{ExprTree, CondTree, always, never, named, compared, negation, both, either}
use Rattle.kat_model.specs.Stores.{modulus, Store, value}
use Rattle.kat_model.specs.Relations.{Frame, Along, RelatesIn, RelateInTurn}
use Rattle.kat_model.proofs.ProductRelations.{product_of_relations}
use Rattle.linear_forms.specs.Comparisons.{comparison_form}
use Rattle.linear_forms.specs.declared.comparison.Atomic.{Atomic}
use Rattle.linear_forms.proofs.StoredValues.{form_value-normal_form}
use Rattle.linear_forms.proofs.Truths.{comparison_form_holds}
use Rattle.while_lang.specs.Programs.{ProgTree, empty, skip_then, abort_then, assert_then, act_then, assign_then, branch_then, loop_then}
use Rattle.while_lang.specs.Encoding.{stmt_terms, encoded}
use Rattle.while_lang.proofs.Choices.{chosen_parts, parts_chosen}
use Rattle.while_lang.specs.Files.{FileParts}
use Rattle.while_lang.specs.Concrete.{IsStoreOf}
use Rattle.while_lang.specs.Ranges.{IsCondInRange, IsProgInRange}
use Rattle.abstraction.specs.Abstracts.{test_rows_of, action_rows_of}
use Rattle.abstraction.specs.Comparisons.{Assignment, cond_comparisons, prog_comparisons, prog_assignments}
use Rattle.abstraction.specs.Readings.{Reading, holds_by, LeadsBy, row_by, StepsBy}
use Rattle.abstraction.specs.Tests.{cond_test, assignment_action, prog_flow}
use Rattle.abstraction.proofs.ProgramRuns.{guarded_relates, relates_guarded}
use Rattle.abstraction.proofs.RowTruths.{tables_with, assigned, two_within, three_within, named_truth, form_truth, assigned_row, named_row, assigned_store}

module _ (f : FileParts) (cs : List Atomic) (xs : List Assignment) (r : Reading) where
  abbrev m : ℕ
  m = modulus f.width

  abbrev pub frame_by : Frame Store
  frame_by = record {
    IsState = IsStoreOf f;
    atom = λ s. map (row_by (modulus f.width) r s) (test_rows_of (tables_with f cs xs));
    Acts = λ k s t. StepsBy (modulus f.width) r (slice_get (action_rows_of (tables_with f cs xs)) k) s t;
  }

  -- ---- conditions and assignments

  -- the test of a condition holds exactly when the condition does
  pub cond_by : (b : CondTree) → IsCondInRange f.tests f.vars b → IsSubset (cond_comparisons m b) cs → (s : Store) → IsStoreOf f s
      → truth (cond_test (tables_with f cs xs) b) (frame_by.atom s) ≡ holds_by f.width r s b
  cond_by always range all s is = refl
  cond_by never range all s is = refl
  cond_by (named k) range all s is = named_truth f cs xs (row_by m r) (λ u a. refl) s k range
  cond_by (compared rel d e) range all s is =
      form_truth f cs xs (row_by m r) (λ u a. refl) s (comparison_form m rel d e) all ∙ comparison_form_holds f.width s rel d e is.1
  cond_by (negation b) range all s is = ap not (cond_by b range all s is)
  cond_by (both b c) range all s is =
      let parts = two_within (cond_comparisons m b) (cond_comparisons m c) cs all in
      ap₂ ◌&&◌ (cond_by b range.0 parts.0 s is) (cond_by c range.1 parts.1 s is)
  cond_by (either b c) range all s is =
      let parts = two_within (cond_comparisons m b) (cond_comparisons m c) cs all in
      ap₂ ◌||◌ (cond_by b range.0 parts.0 s is) (cond_by c range.1 parts.1 s is)

  -- the step of an assignment sets the variable
  sets_by : (x : ℕ) (e : ExprTree) → Has xs (assigned f x e) → (s u : Store) → IsStoreOf f s
      → frame_by.Acts (assignment_action (tables_with f cs xs) (assigned f x e)) s u ↔ (u ≡ set s x (value f.width s e))
  sets_by x e h s u is =
      let same = form_value-normal_form f.width s e is.1 in
      let row = assigned_row f cs xs x e h in (
        (λ k. subst (λ o. StepsBy m r o s u) row k ∙ ap (set s x) same),
        (λ k. subst (λ o. StepsBy m r o s u) (sym row) (k ∙ ap (set s x) (sym same))),
      )

  -- ---- programs

  -- the program is in range, and the tables have its comparisons and assignments
  record IsIn (p : ProgTree) : Type 0 where
    range : IsProgInRange f.tests f.actions f.vars p
    tests : IsSubset (prog_comparisons m p) cs
    acts : IsSubset (prog_assignments m p) xs

  -- what this says of the parts of a program

  abbrev IsCondIn : CondTree → Type 0
  IsCondIn b = (s : Store) → IsStoreOf f s → truth (cond_test (tables_with f cs xs) b) (frame_by.atom s) ≡ holds_by f.width r s b

  in_assert : (b : CondTree) (rest : ProgTree) → IsIn (assert_then b rest) → IsCondIn b × IsIn rest
  in_assert b rest i =
      let seen = two_within (cond_comparisons m b) (prog_comparisons m rest) cs i.tests in
      (cond_by b i.range.0 seen.0, record { range = i.range.1; tests = seen.1; acts = i.acts })

  in_branch : (b : CondTree) (p q rest : ProgTree) → IsIn (branch_then b p q rest) → IsCondIn b × IsIn p × IsIn q × IsIn rest
  in_branch b p q rest i =
      let seen = two_within (cond_comparisons m b ++ prog_comparisons m p ++ prog_comparisons m q) (prog_comparisons m rest) cs i.tests in
      let parts = three_within (cond_comparisons m b) (prog_comparisons m p) (prog_comparisons m q) cs seen.0 in
      let set = three_within (prog_assignments m p) (prog_assignments m q) (prog_assignments m rest) xs i.acts in (
        cond_by b i.range.0 parts.0,
        record { range = i.range.1; tests = parts.1; acts = set.0 },
        record { range = i.range.2; tests = parts.2; acts = set.1 },
        record { range = i.range.3; tests = seen.1; acts = set.2 },
      )

  in_loop : (b : CondTree) (p rest : ProgTree) → IsIn (loop_then b p rest) → IsCondIn b × IsIn p × IsIn rest
  in_loop b p rest i =
      let parts = three_within (cond_comparisons m b) (prog_comparisons m p) (prog_comparisons m rest) cs i.tests in
      let set = two_within (prog_assignments m p) (prog_assignments m rest) xs i.acts in (
        cond_by b i.range.0 parts.0,
        record { range = i.range.1; tests = parts.1; acts = set.0 },
        record { range = i.range.2; tests = parts.2; acts = set.1 },
      )

  abbrev InTurn : ProgTree → Store → Store → Type 0
  InTurn p s u = RelateInTurn frame_by (stmt_terms (prog_flow (tables_with f cs xs) p)) s u

  abbrev term_of : ProgTree → Store → Store → Type 0
  term_of p s u = RelatesIn frame_by (encoded (prog_flow (tables_with f cs xs) p)) s u

  in_turn : (p : ProgTree) (s u : Store) → IsStoreOf f s → IsStoreOf f u → term_of p s u ↔ InTurn p s u
  in_turn p s u ss su = product_of_relations frame_by (stmt_terms (prog_flow (tables_with f cs xs) p)) s u ss su

  -- a step of the body of a loop
  abbrev Turn : CondTree → ProgTree → Store → Store → Type 0
  Turn b p v z = (holds_by f.width r v b ≡ true) × LeadsBy f r p v z

  abbrev RelatesTurn : CondTree → ProgTree → Store → Store → Type 0
  RelatesTurn b p = RelatesIn frame_by (product (test (cond_test (tables_with f cs xs) b)) (encoded (prog_flow (tables_with f cs xs) p)))

  along_each : (R Q : Store → Store → Type 0) → ((v z : Store) → IsStoreOf f v → IsStoreOf f z → R v z → Q v z) → (ks : List Store) (s u : Store) → IsStoreOf f s
      → Along (IsStoreOf f) R s ks u → Along (IsStoreOf f) Q s ks u
  along_each R Q each [] s u ss a = a
  along_each R Q each (k ∷ ks) s u ss a = (a.0, each s k ss a.0 a.1, along_each R Q each ks k u a.0 a.2)

  leads_related : (p : ProgTree) → IsIn p → (s u : Store) → IsStoreOf f s → IsStoreOf f u → LeadsBy f r p s u → InTurn p s u
  leads_related empty i s u ss su g = g
  leads_related (skip_then rest) i s u ss su g = (s, ss, refl, leads_related rest (record { range = i.range; tests = i.tests; acts = i.acts }) s u ss su g)
  leads_related (abort_then rest) i s u ss su g = absurd g
  leads_related (assert_then b rest) i s u ss su g =
      let parts = in_assert b rest i in
      (s, ss, (refl, parts.0 s ss ∙ g.0), leads_related rest parts.1 s u ss su g.1)
  leads_related (act_then a rest) i s u ss su g =
      (g.0, g.1, subst (λ o. StepsBy m r o s g.0) (sym (named_row f cs xs a i.range.0)) g.2, leads_related rest (record { range = i.range.1; tests = i.tests; acts = i.acts }) g.0 u g.1 su g.3)
  leads_related (assign_then x e rest) i s u ss su g =
      let v = set s x (value f.width s e) in
      let sv = assigned_store f cs xs x e s ss in
      (v, sv, (sets_by x e (i.acts (assigned f x e) (inl refl)) s v ss).1 refl, leads_related rest (record { range = i.range.2; tests = i.tests; acts = λ a h. i.acts a (inr h) }) v u sv su g)
  leads_related (branch_then b p q rest) i s u ss su g =
      let parts = in_branch b p q rest i in
      let v = g.0 in
      let t = cond_test (tables_with f cs xs) b in
      let later = leads_related rest parts.3 v u g.1 su g.3 in
      ⊎_elim {C = InTurn (branch_then b p q rest) s u}
      (λ h.
      let body = (in_turn p s v ss g.1).1 (leads_related p parts.1 s v ss g.1 h.1) in
      (v, g.1, inl (guarded_relates frame_by t (encoded (prog_flow (tables_with f cs xs) p)) s v ss (parts.0 s ss ∙ h.0) body), later))
      (λ h.
      let body = (in_turn q s v ss g.1).1 (leads_related q parts.2 s v ss g.1 h.1) in
      (v, g.1, inr (guarded_relates frame_by (complement t) (encoded (prog_flow (tables_with f cs xs) q)) s v ss (not_from_false (truth t (frame_by.atom s)) (parts.0 s ss ∙ h.0)) body), later))
      (chosen_parts (holds_by f.width r s b) g.2)
  leads_related (loop_then b p rest) i s u ss su g =
      let parts = in_loop b p rest i in
      let v = g.0 in
      let t = cond_test (tables_with f cs xs) b in
      let turns = along_each (Turn b p) (RelatesTurn b p)
      (λ y z sy sz h. guarded_relates frame_by t (encoded (prog_flow (tables_with f cs xs) p)) y z sy (parts.0 y sy ∙ h.0) ((in_turn p y z sy sz).1 (leads_related p parts.1 y z sy sz h.1)))
      g.2.0 s v ss g.2.1 in
      (v, g.1, (v, g.1, (g.2.0, turns), (refl, not_from_false (truth t (frame_by.atom v)) (parts.0 v g.1 ∙ g.3))), leads_related rest parts.2 v u g.1 su g.4)

  related_leads : (p : ProgTree) → IsIn p → (s u : Store) → IsStoreOf f s → IsStoreOf f u → InTurn p s u → LeadsBy f r p s u
  related_leads empty i s u ss su h = h
  related_leads (skip_then rest) i s u ss su h =
      related_leads rest (record { range = i.range; tests = i.tests; acts = i.acts }) s u ss su (subst (λ v. InTurn rest v u) (sym h.2) h.3)
  related_leads (abort_then rest) i s u ss su h = absurd h.2
  related_leads (assert_then b rest) i s u ss su h =
      let parts = in_assert b rest i in
      (sym (parts.0 s ss) ∙ h.2.1, related_leads rest parts.1 s u ss su (subst (λ v. InTurn rest v u) (sym h.2.0) h.3))
  related_leads (act_then a rest) i s u ss su h =
      (h.0, h.1, subst (λ o. StepsBy m r o s h.0) (named_row f cs xs a i.range.0) h.2, related_leads rest (record { range = i.range.1; tests = i.tests; acts = i.acts }) h.0 u h.1 su h.3)
  related_leads (assign_then x e rest) i s u ss su h =
      let v = set s x (value f.width s e) in
      let sv = assigned_store f cs xs x e s ss in
      let to : h.0 ≡ v = (sets_by x e (i.acts (assigned f x e) (inl refl)) s h.0 ss).0 h.2 in
      related_leads rest (record { range = i.range.2; tests = i.tests; acts = λ a k. i.acts a (inr k) }) v u sv su (subst (λ y. InTurn rest y u) to h.3)
  related_leads (branch_then b p q rest) i s u ss su h =
      let parts = in_branch b p q rest i in
      let v = h.0 in
      let t = cond_test (tables_with f cs xs) b in
      let later = related_leads rest parts.3 v u h.1 su h.3 in
      ⊎_elim {C = LeadsBy f r (branch_then b p q rest) s u}
      (λ k.
      let part = relates_guarded frame_by t (encoded (prog_flow (tables_with f cs xs) p)) s v k in
      (v, h.1, parts_chosen (holds_by f.width r s b) (inl (sym (parts.0 s ss) ∙ part.0, related_leads p parts.1 s v ss h.1 ((in_turn p s v ss h.1).0 part.1))), later))
      (λ k.
      let part = relates_guarded frame_by (complement t) (encoded (prog_flow (tables_with f cs xs) q)) s v k in
      (v, h.1, parts_chosen (holds_by f.width r s b) (inr (sym (parts.0 s ss) ∙ not-true (truth t (frame_by.atom s)) part.0, related_leads q parts.2 s v ss h.1 ((in_turn q s v ss h.1).0 part.1))), later))
      h.2
  related_leads (loop_then b p rest) i s u ss su h =
      let parts = in_loop b p rest i in
      let loop = h.2 in
      let t = cond_test (tables_with f cs xs) b in
      let end : loop.0 ≡ h.0 = loop.3.0 in
      let turns = along_each (RelatesTurn b p) (Turn b p)
      (λ y z sy sz k. let part = relates_guarded frame_by t (encoded (prog_flow (tables_with f cs xs) p)) y z k in (sym (parts.0 y sy) ∙ part.0, related_leads p parts.1 y z sy sz ((in_turn p y z sy sz).0 part.1)))
      loop.2.0 s loop.0 ss loop.2.1 in
      let fails = sym (parts.0 loop.0 loop.1) ∙ not-true (truth t (frame_by.atom loop.0)) loop.3.1 in (
        h.0,
        h.1,
        (loop.2.0, subst (λ v. Along (IsStoreOf f) (Turn b p) s loop.2.0 v) end turns),
        subst (λ v. holds_by f.width r v b ≡ false) end fails,
        related_leads rest parts.2 h.0 u h.1 su h.3,
      )

  -- a program leads from one store to another exactly when its term relates them
  pub leads_as_related : (p : ProgTree) → IsProgInRange f.tests f.actions f.vars p → IsSubset (prog_comparisons m p) cs → IsSubset (prog_assignments m p) xs → (s u : Store) → IsStoreOf f s → IsStoreOf f u
      → LeadsBy f r p s u ↔ RelatesIn frame_by (encoded (prog_flow (tables_with f cs xs) p)) s u
  leads_as_related p range tests acts s u ss su =
      let i : IsIn p = record { range = range; tests = tests; acts = acts } in
      ((λ g. (in_turn p s u ss su).1 (leads_related p i s u ss su g)), (λ h. related_leads p i s u ss su ((in_turn p s u ss su).0 h)))
