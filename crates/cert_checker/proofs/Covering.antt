-- A term that may be in one set is also in the other by its guard, or is open. Known values of guards are correct.
use Rattle.std.proofs.Common.{◌≡◌, ℕ, ◌⊎◌, inl, inr, ⊎_elim, List, [], ◌∷◌, refl, sym, ap, ◌∙◌, subst, Bool, true, false, ◌||◌, cond, nat_eq}
use Rattle.std.proofs.lemmas.Bool.{true≢false, eqb-true, or_cases}
use Rattle.kat_model.specs.Trees.{Term}
use Rattle.kat_model.specs.Members.{Has, IsSubset}
use Rattle.kat_model.specs.Steps.{Atom}
use Rattle.kat_model.proofs.Lists.{has_right, has_append}
use Rattle.term_nodes.specs.NumberSets.{terms_of}
use Rattle.cert_checker.specs.NodeTables.{TableParts, term_at, holds_at, nodes_in}
use Rattle.cert_checker.specs.Targets.{chosen, guard_of}
use Rattle.cert_checker.proofs.ChosenTargets.{chosen_has, guard_member, any_value}
use Rattle.cert_checker.specs.declared.known.Truth.{Truth}
use Rattle.cert_checker.specs.declared.known.Truth.TheVariants.{Known, Undecided}
use Rattle.cert_checker.specs.Cases.{known_of, truly, falsely}
use Rattle.cert_checker.specs.Sides.{sure_targets, has_too, open_targets}

pub truly_value : (x : Truth) → truly x ≡ true → x ≡ Known true
truly_value (Known true) e = refl
truly_value (Known false) e = absurd cc
truly_value (Undecided k) e = absurd cc

pub falsely_value : (x : Truth) → falsely x ≡ true → x ≡ Known false
falsely_value (Known true) e = absurd cc
falsely_value (Known false) e = refl
falsely_value (Undecided k) e = absurd cc

module _ (t : TableParts) (known : List Truth) (atom : Atom) where
  -- the known values of the guards are their values at the atom
  abbrev pub AreRight : List (ℕ × ℕ) → Type 0
  AreRight es = (e : ℕ × ℕ) → Has es e → (b : Bool) → known_of known e.1 ≡ Known b → holds_at t e.1 atom ≡ b

  -- every term that is surely among the targets is chosen
  pub sure_chosen : (es : List (ℕ × ℕ)) → AreRight es → IsSubset (terms_of (nodes_in t) (sure_targets known es)) (chosen t es atom)
  sure_chosen [] right x h = h
  sure_chosen (e ∷ es) right x h = go (truly (known_of known e.1)) refl (sure_chosen es (λ d m. right d (inr m)) x) h
    where
      go : (b : Bool) → truly (known_of known e.1) ≡ b → (Has (terms_of (nodes_in t) (sure_targets known es)) x → Has (chosen t es atom) x) → Has (terms_of (nodes_in t) (cond b (e.0 ∷ sure_targets known es) (sure_targets known es))) x → Has (chosen t (e ∷ es) atom) x
      go true s rest k =
          ⊎_elim
          (λ same. subst (Has (chosen t (e ∷ es) atom)) same (chosen_has t (e ∷ es) atom e (inl refl) (right e (inl refl) true (truly_value (known_of known e.1) s))))
          (λ r. has_right (cond (holds_at t e.1 atom) (term_at t e.0 ∷ []) []) (chosen t es atom) x (rest r))
          k
      go false s rest k = has_right (cond (holds_at t e.1 atom) (term_at t e.0 ∷ []) []) (chosen t es atom) x (rest k)

  module _ (others : List (ℕ × ℕ)) (right_others : AreRight others) where
    -- a term that is chosen on one side is chosen on the other, or is open
    pub chosen_reached : (es : List (ℕ × ℕ)) → AreRight es → (x : Term) → Has (chosen t es atom) x → Has (chosen t others atom) x ⊎ Has (terms_of (nodes_in t) (open_targets known others es)) x
    chosen_reached [] right x h = absurd h
    chosen_reached (d ∷ es) right x h =
        ⊎_elim (λ l. here (holds_at t d.1 atom) refl l) (λ k. later (chosen_reached es (λ e m. right e (inr m)) x k)) (has_append (cond (holds_at t d.1 atom) (term_at t d.0 ∷ []) []) (chosen t es atom) x h)
      where
        later : Has (chosen t others atom) x ⊎ Has (terms_of (nodes_in t) (open_targets known others es)) x → Has (chosen t others atom) x ⊎ Has (terms_of (nodes_in t) (open_targets known others (d ∷ es))) x
        later k = ⊎_elim inl (λ o. inr (go (falsely (known_of known d.1) || has_too known others d.0 d.1) o)) k
          where
            go : (b : Bool) → Has (terms_of (nodes_in t) (open_targets known others es)) x → Has (terms_of (nodes_in t) (cond b (open_targets known others es) (d.0 ∷ open_targets known others es))) x
            go true o = o
            go false o = inr o

        in_others : holds_at t d.1 atom ≡ true → (falsely (known_of known d.1) || has_too known others d.0 d.1) ≡ true → Has (chosen t others atom) (term_at t d.0)
        in_others true_here p =
            ⊎_elim
            (λ f. absurd (true≢false (sym true_here ∙ right d (inl refl) false (falsely_value (known_of known d.1) f))))
            (λ r.
            let v = any_value (λ g. nat_eq g d.1 || truly (known_of known g)) (guard_of others d.0) r in
            let member : Has others (d.0, v.0) = guard_member d.0 others v.0 v.1 in
            let holds : holds_at t v.0 atom ≡ true =
            ⊎_elim
            (λ g. ap (λ (h : ℕ). holds_at t h atom) (eqb-true v.0 d.1 g) ∙ true_here)
            (λ s. right_others (d.0, v.0) member true (truly_value (known_of known v.0) s))
            (or_cases (nat_eq v.0 d.1) (truly (known_of known v.0)) v.2) in
            chosen_has t others atom (d.0, v.0) member holds)
            (or_cases (falsely (known_of known d.1)) (has_too known others d.0 d.1) p)

        here : (b : Bool) → holds_at t d.1 atom ≡ b → Has (cond b (term_at t d.0 ∷ []) []) x → Has (chosen t others atom) x ⊎ Has (terms_of (nodes_in t) (open_targets known others (d ∷ es))) x
        here false e k = absurd k
        here true e k = ⊎_elim (λ same. go (falsely (known_of known d.1) || has_too known others d.0 d.1) refl same) absurd k
          where
            go : (b : Bool) → (falsely (known_of known d.1) || has_too known others d.0 d.1) ≡ b → term_at t d.0 ≡ x → Has (chosen t others atom) x ⊎ Has (terms_of (nodes_in t) (cond b (open_targets known others es) (d.0 ∷ open_targets known others es))) x
            go true p same = inl (subst (Has (chosen t others atom)) same (in_others e p))
            go false p same = inr (inl same)
