-- A program ends in the stores that its term relates, in a frame of stores whose tests and actions represent its
-- conditions and assignments.
use Rattle.std.proofs.Common.{◌≡◌, ℕ, zero, suc, ◌+◌, inl, inr, ⊎_elim, ◌↔◌, List, [], ◌∷◌, refl, sym, ap, ◌∙◌, subst, true, false, set}
use Rattle.std.proofs.lemmas.Bool.{not-true, not_from_false}
use Rattle.kat_model.specs.Trees.{TestTree, complement, Term, test, product}
use Rattle.kat_model.specs.Steps.{truth}
use Rattle.kat_model.specs.Expressions.{ExprTree, CondTree}
use Rattle.kat_model.specs.Stores.{modulus, Store, value, holds}
use Rattle.kat_model.specs.Relations.{Frame, Along, RelatesIn, RelateInTurn}
use Rattle.kat_model.specs.declared.expression.Width.{Width}
use Rattle.kat_model.proofs.ProductRelations.{product_of_relations}
use Rattle.linear_forms.specs.Arithmetic.{normal_form}
use Rattle.while_lang.specs.Programs.{ProgTree, empty, skip_then, abort_then, assert_then, act_then, assign_then, branch_then, loop_then}
use Rattle.while_lang.specs.Runs.{condition, Leaves, Turns, Goes, Ends}
use Rattle.while_lang.specs.Encoding.{stmt_terms, encoded}
use Rattle.while_lang.proofs.Choices.{chosen_parts, parts_chosen}
use Rattle.abstraction.specs.Tables.{Tables}
use Rattle.abstraction.specs.Tests.{cond_test, assignment_action, prog_flow}

-- a test before a term: the test holds and the term relates
module _ {S : Type 0} (frame : Frame S) where
  pub guarded_relates : (b : TestTree) (e : Term) (s t : S) → frame.IsState s → truth b (frame.atom s) ≡ true → RelatesIn frame e s t → RelatesIn frame (product (test b) e) s t
  guarded_relates b e s t ss h r = (s, ss, (refl, h), r)

  pub relates_guarded : (b : TestTree) (e : Term) (s t : S) → RelatesIn frame (product (test b) e) s t → (truth b (frame.atom s) ≡ true) × RelatesIn frame e s t
  relates_guarded b e s t r = (r.2.1, subst (λ u. RelatesIn frame e u t) (sym r.2.0) r.3)

-- the test of a condition holds in exactly the states in which the condition does
abbrev pub IsCondRead : Width → Tables → Frame Store → CondTree → Type 0
IsCondRead w t frame b = (s : Store) → frame.IsState s → truth (cond_test t b) (frame.atom s) ≡ holds w s b

-- the action of an assignment leads from each state to exactly the state in which the variable is set to the value
abbrev pub IsAssignRead : Width → Tables → Frame Store → ℕ → ExprTree → Type 0
IsAssignRead w t frame x e =
    (s : Store) → frame.IsState s →
    frame.IsState (set s x (value w s e))
    × ((u : Store) → frame.Acts (assignment_action t (record { var = x; form = normal_form (modulus t.width) e })) s u ↔ (u ≡ set s x (value w s e)))

-- this is true of all conditions and assignments of a program, and its named actions lead nowhere
abbrev pub IsProgRead : Width → Tables → Frame Store → ProgTree → Type 0
IsProgRead w t frame empty = Unit {0}
IsProgRead w t frame (skip_then rest) = IsProgRead w t frame rest
IsProgRead w t frame (abort_then rest) = IsProgRead w t frame rest
IsProgRead w t frame (assert_then b rest) = IsCondRead w t frame b × IsProgRead w t frame rest
IsProgRead w t frame (act_then a rest) = ((s u : Store) → frame.Acts a s u → ⊥) × IsProgRead w t frame rest
IsProgRead w t frame (assign_then x e rest) = IsAssignRead w t frame x e × IsProgRead w t frame rest
IsProgRead w t frame (branch_then b p q rest) = IsCondRead w t frame b × IsProgRead w t frame p × IsProgRead w t frame q × IsProgRead w t frame rest
IsProgRead w t frame (loop_then b p rest) = IsCondRead w t frame b × IsProgRead w t frame p × IsProgRead w t frame rest

module _ (w : Width) (t : Tables) (frame : Frame Store) where
  -- the terms of the statements lead from one store to another
  abbrev InTurn : ProgTree → Store → Store → Type 0
  InTurn p s u = RelateInTurn frame (stmt_terms (prog_flow t p)) s u

  -- a condition holds exactly when its test is true
  pub holds_read : (b : CondTree) (s : Store) → IsCondRead w t frame b → frame.IsState s → holds w s b ≡ true → truth (cond_test t b) (frame.atom s) ≡ true
  holds_read b s read ss h = read s ss ∙ h

  pub fails_read : (b : CondTree) (s : Store) → IsCondRead w t frame b → frame.IsState s → holds w s b ≡ false → truth (complement (cond_test t b)) (frame.atom s) ≡ true
  fails_read b s read ss h = not_from_false (truth (cond_test t b) (frame.atom s)) (read s ss ∙ h)

  read_holds : (b : CondTree) (s : Store) → IsCondRead w t frame b → frame.IsState s → truth (cond_test t b) (frame.atom s) ≡ true → holds w s b ≡ true
  read_holds b s read ss h = sym (read s ss) ∙ h

  read_fails : (b : CondTree) (s : Store) → IsCondRead w t frame b → frame.IsState s → truth (complement (cond_test t b)) (frame.atom s) ≡ true → holds w s b ≡ false
  read_fails b s read ss h = sym (read s ss) ∙ not-true (truth (cond_test t b) (frame.atom s)) h

  -- the term of a program relates two stores exactly when the terms of its statements do in sequence
  encoded_in_turn : (p : ProgTree) (s u : Store) → frame.IsState s → frame.IsState u → RelatesIn frame (encoded (prog_flow t p)) s u ↔ InTurn p s u
  encoded_in_turn p s u ss su = product_of_relations frame (stmt_terms (prog_flow t p)) s u ss su

  -- ---- runs are related

  -- the turns of a loop lead along stores to a store in which its condition fails
  turns_related : (b : CondTree) (p : ProgTree) → IsCondRead w t frame b →
      ((s : Store) (k : ℕ) (u : Store) → frame.IsState s → Goes w p s k u → frame.IsState u × InTurn p s u) →
      (n : ℕ) (s : Store) (k : ℕ) (u : Store) → frame.IsState s → Turns n (condition w b) (Goes w p) (Leaves (condition w b)) s k u →
      frame.IsState u × (holds w u b ≡ false)
      × (ks : List Store) × Along frame.IsState (RelatesIn frame (product (test (cond_test t b)) (encoded (prog_flow t p)))) s ks u
  turns_related b p read body zero s k u ss (h, (e, f)) = (subst frame.IsState (sym f) ss, ap (condition w b) f ∙ h, [], sym f)
  turns_related b p read body (suc n) s k u ss (i, j, v, (l, h, g, e), later, d) =
      let first = body s l v ss g in
      let rest = turns_related b p read body n v j u first.0 later in
      let turn = guarded_relates frame (cond_test t b) (encoded (prog_flow t p)) s v ss (holds_read b s read ss h) ((encoded_in_turn p s v ss first.0).1 first.1) in
      (rest.0, rest.1, v ∷ rest.2, (first.0, turn, rest.3))

  -- a run leads to a state, and the terms of the statements lead to the same state
  goes_related : (p : ProgTree) → IsProgRead w t frame p → (s : Store) (k : ℕ) (u : Store) → frame.IsState s → Goes w p s k u → frame.IsState u × InTurn p s u
  goes_related empty read s k u ss (e, f) = (subst frame.IsState (sym f) ss, sym f)
  goes_related (skip_then rest) read s k u ss g = let r = goes_related rest read s k u ss g in (r.0, (s, ss, refl, r.1))
  goes_related (abort_then rest) read s k u ss g = absurd g
  goes_related (assert_then b rest) read s k u ss (h, g) =
      let r = goes_related rest read.1 s k u ss g in
      (r.0, (s, ss, (refl, holds_read b s read.0 ss h), r.1))
  goes_related (act_then a rest) read s k u ss g = absurd g
  goes_related (assign_then x e rest) read s k u ss g =
      let a = read.0 s ss in
      let r = goes_related rest read.1 (set s x (value w s e)) k u a.0 g in
      (r.0, (set s x (value w s e), a.0, (a.1 (set s x (value w s e))).1 refl, r.1))
  goes_related (branch_then b p q rest) read s k u ss (i, j, v, g, c, e) =
      ⊎_elim
      (λ h.
      let first = goes_related p read.1 s i v ss h.1 in
      let r = goes_related rest read.3 v j u first.0 c in
      let part = guarded_relates frame (cond_test t b) (encoded (prog_flow t p)) s v ss (holds_read b s read.0 ss h.0) ((encoded_in_turn p s v ss first.0).1 first.1) in
      (r.0, (v, first.0, inl part, r.1)))
      (λ h.
      let first = goes_related q read.2 s i v ss h.1 in
      let r = goes_related rest read.3 v j u first.0 c in
      let part = guarded_relates frame (complement (cond_test t b)) (encoded (prog_flow t q)) s v ss (fails_read b s read.0 ss h.0) ((encoded_in_turn q s v ss first.0).1 first.1) in
      (r.0, (v, first.0, inr part, r.1)))
      (chosen_parts (condition w b s) g)
  goes_related (loop_then b p rest) read s k u ss (i, j, v, (n, g), c, e) =
      let turns = turns_related b p read.0 (λ x l y sx h. goes_related p read.1 x l y sx h) n s i v ss g in
      let r = goes_related rest read.2 v j u turns.0 c in
      (r.0, (v, turns.0, (v, turns.0, (turns.2, turns.3), (refl, fails_read b v read.0 turns.0 turns.1)), r.1))

  -- ---- related stores have runs

  -- stores connected by the body of a loop are the turns of the loop
  along_turns : (b : CondTree) (p : ProgTree) → IsCondRead w t frame b →
      ((s u : Store) → frame.IsState s → frame.IsState u → InTurn p s u → Ends w p s u) →
      (ks : List Store) (s u : Store) → frame.IsState s → frame.IsState u → holds w u b ≡ false →
      Along frame.IsState (RelatesIn frame (product (test (cond_test t b)) (encoded (prog_flow t p)))) s ks u →
      (n k : ℕ) × Turns n (condition w b) (Goes w p) (Leaves (condition w b)) s k u
  along_turns b p read body [] s u ss su h r = (0, 0, (ap (condition w b) r ∙ h, (refl, sym r)))
  along_turns b p read body (v ∷ ks) s u ss su h r =
      let turn = relates_guarded frame (cond_test t b) (encoded (prog_flow t p)) s v r.1 in
      let first = body s v ss r.0 ((encoded_in_turn p s v ss r.0).0 turn.1) in
      let rest = along_turns b p read body ks v u r.0 su h r.2 in
      (suc rest.0, first.0 + 1 + rest.1, (first.0 + 1, rest.1, v, (first.0, read_holds b s read ss turn.0, first.1, refl), rest.2, refl))

  related_goes : (p : ProgTree) → IsProgRead w t frame p → (s u : Store) → frame.IsState s → frame.IsState u → InTurn p s u → Ends w p s u
  related_goes empty read s u ss su r = (0, (refl, sym r))
  related_goes (skip_then rest) read s u ss su r = related_goes rest read s u ss su (subst (λ v. InTurn rest v u) (sym r.2) r.3)
  related_goes (abort_then rest) read s u ss su r = absurd r.2
  related_goes (assert_then b rest) read s u ss su r =
      let later = related_goes rest read.1 s u ss su (subst (λ v. InTurn rest v u) (sym r.2.0) r.3) in
      (later.0, (read_holds b s read.0 ss r.2.1, later.1))
  related_goes (act_then a rest) read s u ss su r = absurd (read.0 s r.0 r.2)
  related_goes (assign_then x e rest) read s u ss su r =
      let a = read.0 s ss in
      related_goes rest read.1 (set s x (value w s e)) u a.0 su (subst (λ v. InTurn rest v u) ((a.1 r.0).0 r.2) r.3)
  related_goes (branch_then b p q rest) read s u ss su r =
      let later = related_goes rest read.3 r.0 u r.1 su r.3 in
      ⊎_elim
      (λ h.
      let part = relates_guarded frame (cond_test t b) (encoded (prog_flow t p)) s r.0 h in
      let first = related_goes p read.1 s r.0 ss r.1 ((encoded_in_turn p s r.0 ss r.1).0 part.1) in
      (first.0 + later.0, (first.0, later.0, r.0, parts_chosen (condition w b s) (inl (read_holds b s read.0 ss part.0, first.1)), later.1, refl)))
      (λ h.
      let part = relates_guarded frame (complement (cond_test t b)) (encoded (prog_flow t q)) s r.0 h in
      let first = related_goes q read.2 s r.0 ss r.1 ((encoded_in_turn q s r.0 ss r.1).0 part.1) in
      (first.0 + later.0, (first.0, later.0, r.0, parts_chosen (condition w b s) (inr (read_fails b s read.0 ss part.0, first.1)), later.1, refl)))
      r.2
  related_goes (loop_then b p rest) read s u ss su r =
      let loop = r.2 in
      let later = related_goes rest read.2 r.0 u r.1 su r.3 in
      let end : loop.0 ≡ r.0 = loop.3.0 in
      let fails = read_fails b loop.0 read.0 loop.1 loop.3.1 in
      let turns = along_turns b p read.0 (λ x y sx sy h. related_goes p read.1 x y sx sy h) loop.2.0 s loop.0 ss loop.1 fails loop.2.1 in
      let loops = subst (λ v. Turns turns.0 (condition w b) (Goes w p) (Leaves (condition w b)) s turns.1 v) end turns.2 in
      (turns.1 + later.0, (turns.1, later.0, r.0, (turns.0, loops), later.1, refl))

  -- a program ends in exactly the states that its term relates
  pub ends_as_related : (p : ProgTree) → IsProgRead w t frame p → (s u : Store) → frame.IsState s → frame.IsState u →
      Ends w p s u ↔ RelatesIn frame (encoded (prog_flow t p)) s u
  ends_as_related p read s u ss su =
      ((λ g. (encoded_in_turn p s u ss su).1 (goes_related p read s g.0 u ss g.1).1), (λ r. related_goes p read s u ss su ((encoded_in_turn p s u ss su).0 r)))
