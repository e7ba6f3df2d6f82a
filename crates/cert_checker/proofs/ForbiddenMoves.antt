-- Pairs of tests that decide which moves are allowed: those for the acceptance of the short hypotheses and for the
-- terms that a step leads to from them.
use Rattle.std.proofs.Common.{◌≡◌, ◌↔◌, ℕ, ◌<◌, inl, inr, ⊎_elim, List, [], ◌∷◌, map, length, get_or, refl, sym, ap, ◌∙◌, subst, true, false, ◌&&◌, Option, Some, None}
use Rattle.std.specs.Option.{is_some}
use Rattle.std.proofs.lemmas.Bool.{true≢false, and_parts, and_from, and_right, false_from_ne_true}
use Rattle.kat_model.specs.Trees.{Term}
use Rattle.kat_model.specs.Members.{Has}
use Rattle.kat_model.specs.Steps.{Atom, out, next, set_out, set_next}
use Rattle.kat_model.specs.Strings.{set_accepts, accepts}
use Rattle.kat_model.specs.AllowedMoves.{IsAllowedAtom, IsAllowedMove}
use Rattle.kat_model.proofs.Lists.{has_any, any_has, has_map, map_has, has_flat_map, flat_map_has}
use Rattle.kat_model.specs.Problems.{ProblemParts}
use Rattle.certificate.specs.Certs.{CertParts}
use Rattle.cert_checker.specs.NodeTables.{TableParts, IsTest, HasValues, term_at, holds_at}
use Rattle.cert_checker.specs.Targets.{AreEntries, Represent, AreAcceptances, set_leads_to}
use Rattle.cert_checker.specs.Roots.{counted_short}
use Rattle.cert_checker.specs.Passes.{AreForbidden, AddsMoves, IsAllowed, forbidden_of}
use Rattle.cert_checker.proofs.ChosenTargets.{chosen_has, has_chosen}
use Rattle.cert_checker.proofs.StepLists.{accept_at}

-- no pair has both tests true
abbrev pub IsFree : TableParts → List (ℕ × ℕ) → Atom → Atom → Type 0
IsFree t fs atom to = (f : ℕ × ℕ) → Has fs f → (holds_at t f.0 atom && holds_at t f.1 to) ≡ false

module _ (t : TableParts) (es : List Term) (forbidden_atoms always : ℕ) (bans : (atom : Atom) → holds_at t forbidden_atoms atom ≡ set_out es atom) (holds : (atom : Atom) → holds_at t always atom ≡ true) where
  first_free : (atom to : Atom) → (holds_at t forbidden_atoms atom && holds_at t always to) ≡ false → IsAllowedAtom es atom
  first_free atom to e = false_from_ne_true (set_out es atom) (λ s. true≢false (sym (and_from (holds_at t forbidden_atoms atom) (holds_at t always to) (bans atom ∙ s) (holds to)) ∙ e))

  second_free : (atom to : Atom) → (holds_at t always atom && holds_at t forbidden_atoms to) ≡ false → IsAllowedAtom es to
  second_free atom to e = false_from_ne_true (set_out es to) (λ s. true≢false (sym (and_from (holds_at t always atom) (holds_at t forbidden_atoms to) (holds atom) (bans to ∙ s)) ∙ e))

  outputs_free : (atom to : Atom) → IsFree t ((forbidden_atoms, always) ∷ []) atom to ↔ IsAllowedAtom es atom
  outputs_free atom to = (
    (λ free. first_free atom to (free (forbidden_atoms, always) (inl refl))),
    (λ allowed f h. ⊎_elim (λ s. subst (λ (z : ℕ × ℕ). (holds_at t z.0 atom && holds_at t z.1 to) ≡ false) s (ap (λ b. b && holds_at t always to) (bans atom ∙ allowed))) absurd h),
  )

  module _ (a : ℕ) (entries : List (ℕ × ℕ)) (represent : Represent t entries (λ atom. set_next es atom a)) (outputs : List ℕ) (tell : AreAcceptances t outputs) (there : (e : ℕ × ℕ) → Has entries e → e.0 < length outputs) where
    -- an entry stands for an accepted string of one move
    entry_accepts : (atom to : Atom) (e : ℕ × ℕ) → Has entries e → (holds_at t e.1 atom && holds_at t (get_or outputs e.0 0) to) ≡ true → set_accepts es atom (record { act = a; atom = to } ∷ []) ≡ true
    entry_accepts atom to e h both =
        let parts = and_parts (holds_at t e.1 atom) (holds_at t (get_or outputs e.0 0) to) both in
        let target = (represent.same atom (term_at t e.0)).0 (chosen_has t entries atom e h parts.0) in
        let from = has_flat_map (λ x. next x atom a) es (term_at t e.0) target in
        any_has (λ x. accepts x atom (record { act = a; atom = to } ∷ [])) es from.0 from.1
        (any_has (λ x. accepts x to []) (next from.0 atom a) (term_at t e.0) from.2 (sym ((accept_at t outputs e.0 tell (there e h)).1 to) ∙ parts.1))

    -- and each such string has an entry
    accepts_entry : (atom to : Atom) → set_accepts es atom (record { act = a; atom = to } ∷ []) ≡ true → (e : ℕ × ℕ) × Has entries e × ((holds_at t e.1 atom && holds_at t (get_or outputs e.0 0) to) ≡ true)
    accepts_entry atom to s =
        let from = has_any (λ x. accepts x atom (record { act = a; atom = to } ∷ [])) es s in
        let left = has_any (λ x. accepts x to []) (next from.0 atom a) from.2 in
        let target = has_chosen t entries atom left.0 ((represent.same atom left.0).1 (flat_map_has (λ x. next x atom a) es from.0 left.0 from.1 left.1)) in
        (target.0, target.1, and_from (holds_at t target.0.1 atom) (holds_at t (get_or outputs target.0.0 0) to) target.2 ((accept_at t outputs target.0.0 tell (there target.0 target.1)).1 to ∙ ap (λ x. out x to) target.3 ∙ left.2))

    moves_free : (atom to : Atom) → IsFree t ((forbidden_atoms, always) ∷ (always, forbidden_atoms) ∷ map (forbidden_of outputs) entries) atom to ↔ IsAllowedMove es atom (record { act = a; atom = to })
    moves_free atom to = (forth, back)
      where
        forth : IsFree t ((forbidden_atoms, always) ∷ (always, forbidden_atoms) ∷ map (forbidden_of outputs) entries) atom to → IsAllowedMove es atom (record { act = a; atom = to })
        forth free = record {
          from = first_free atom to (free (forbidden_atoms, always) (inl refl));
          to = second_free atom to (free (always, forbidden_atoms) (inr (inl refl)));
          move = false_from_ne_true _ (λ s. let e = accepts_entry atom to s in true≢false (sym e.2 ∙ free (forbidden_of outputs e.0) (inr (inr (map_has (forbidden_of outputs) entries e.0 e.1)))));
        }

        back : IsAllowedMove es atom (record { act = a; atom = to }) → IsFree t ((forbidden_atoms, always) ∷ (always, forbidden_atoms) ∷ map (forbidden_of outputs) entries) atom to
        back allowed f h =
            ⊎_elim
            (λ s. subst (λ (z : ℕ × ℕ). (holds_at t z.0 atom && holds_at t z.1 to) ≡ false) s (ap (λ b. b && holds_at t always to) (bans atom ∙ allowed.from)))
            (λ r. ⊎_elim
            (λ s. subst (λ (z : ℕ × ℕ). (holds_at t z.0 atom && holds_at t z.1 to) ≡ false) s (and_right (holds_at t always atom) (holds_at t forbidden_atoms to) (bans to ∙ allowed.to)))
            (λ k.
            let e = has_map (forbidden_of outputs) entries f k in
            subst (λ (z : ℕ × ℕ). (holds_at t z.0 atom && holds_at t z.1 to) ≡ false) e.2 (false_from_ne_true _ (λ s. true≢false (sym (entry_accepts atom to e.0 e.1 s) ∙ allowed.move))))
            r)
            h

-- all of them are tests of the tables
forbidden_tests : (t : TableParts) (forbidden_atoms always : ℕ) → IsTest t forbidden_atoms → IsTest t always → (entries : List (ℕ × ℕ)) → AreEntries t entries → (outputs : List ℕ) → AreAcceptances t outputs → ((e : ℕ × ℕ) → Has entries e → e.0 < length outputs)
    → (f : ℕ × ℕ) → Has ((forbidden_atoms, always) ∷ (always, forbidden_atoms) ∷ map (forbidden_of outputs) entries) f → IsTest t f.0 × IsTest t f.1
forbidden_tests t forbidden_atoms always bt at entries own outputs tell there f h =
    ⊎_elim
    (λ s. subst (λ (z : ℕ × ℕ). IsTest t z.0 × IsTest t z.1) s (bt, at))
    (λ r. ⊎_elim
    (λ s. subst (λ (z : ℕ × ℕ). IsTest t z.0 × IsTest t z.1) s (at, bt))
    (λ k. let e = has_map (forbidden_of outputs) entries f k in subst (λ (z : ℕ × ℕ). IsTest t z.0 × IsTest t z.1) e.2 ((own e.0 e.1).1, (accept_at t outputs e.0.0 tell (there e.0 e.1)).0))
    r)
    h

-- ---- the pairs of tests of an action's pass

module _ (t : TableParts) (c : CertParts) (q : ProblemParts) where
  module _ (forbidden_atoms always : ℕ) (bans : HasValues t (set_out (counted_short c.style q)) forbidden_atoms) (sure : HasValues t (λ atom. true) always) where
    outputs_forbidden : AreForbidden t c q None ((forbidden_atoms, always) ∷ [])
    outputs_forbidden = record {
      tests = λ f h. ⊎_elim (λ s. subst (λ (z : ℕ × ℕ). IsTest t z.0 × IsTest t z.1) s (bans.0, sure.0)) absurd h;
      mean = outputs_free t (counted_short c.style q) forbidden_atoms always bans.1 sure.1;
    }

    moves_forbidden : (a : ℕ) (entries : List (ℕ × ℕ)) → Represent t entries (λ atom. set_next (counted_short c.style q) atom a) → (outputs : List ℕ) → AreAcceptances t outputs → ((e : ℕ × ℕ) → Has entries e → e.0 < length outputs)
        → AreForbidden t c q (Some a) ((forbidden_atoms, always) ∷ (always, forbidden_atoms) ∷ map (forbidden_of outputs) entries)
    moves_forbidden a entries represent outputs tell there = record {
      tests = forbidden_tests t forbidden_atoms always bans.0 sure.0 entries represent.entries outputs tell there;
      mean = moves_free t (counted_short c.style q) forbidden_atoms always bans.1 sure.1 a entries represent outputs tell there;
    }

    -- by cases on whether there is an action
    pub forbidden_without : (o : Option ℕ) → is_some o ≡ false → AreForbidden t c q o ((forbidden_atoms, always) ∷ [])
    forbidden_without None e = outputs_forbidden
    forbidden_without (Some a) e = absurd cc

    pub forbidden_by : (o : Option ℕ) → is_some o ≡ true → (fs : List (ℕ × ℕ)) → AddsMoves t (set_leads_to o (counted_short c.style q)) ((forbidden_atoms, always) ∷ (always, forbidden_atoms) ∷ []) fs → AreForbidden t c q o fs
    forbidden_by None e fs adds = absurd cc
    forbidden_by (Some a) e fs adds = subst (AreForbidden t c q (Some a)) (sym adds.pairs) (moves_forbidden a adds.entries adds.represent adds.outputs adds.accept adds.there)

  -- without short hypotheses all moves are allowed
  pub none_forbidden : counted_short c.style q ≡ [] → (o : Option ℕ) → AreForbidden t c q o []
  none_forbidden none o = record {
    tests = λ f h. absurd h;
    mean = λ atom to. ((λ free. subst (λ es. IsAllowed es o atom to) (sym none) (allowed o atom to)), (λ a f h. absurd h));
  }
    where
      allowed : (o : Option ℕ) (atom to : Atom) → IsAllowed [] o atom to
      allowed None atom to = refl
      allowed (Some a) atom to = record { from = refl; to = refl; move = refl }
