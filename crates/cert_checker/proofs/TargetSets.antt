-- Lists of targets: what they stand for after the tables grow, and after a target is added.
use Rattle.std.proofs.Common.{◌≡◌, ℕ, ◌⊎◌, inl, inr, ⊎_elim, List, [], ◌∷◌, ◌++◌, refl, sym, ap, ◌∙◌, subst, Bool, true, false, ◌||◌, cond, Some, append-nil}
use mathlib.Core.Path.{ap₂}
use Rattle.std.specs.declared.cmp.Ordering.{Ordering}
use Rattle.std.specs.Option.{option_map_or}
use Rattle.std.specs.declared.cmp.Ordering.TheVariants.{Less, Equal, Greater}
use Rattle.std.specs.Ordering.{nat_cmp, is_eq, match_ordering}
use Rattle.std.specs.BTreeMap.{insert_entry}
use Rattle.std.proofs.lemmas.Map.Lookups.{exact_unsigned}
use Rattle.std.proofs.lemmas.Bool.{or_cases, or_left, or_right}
use Rattle.kat_model.specs.Trees.{Term}
use Rattle.kat_model.specs.Members.{Has, SameMembers}
use Rattle.kat_model.specs.Steps.{Atom, truth}
use Rattle.kat_model.proofs.Lists.{has_left, has_right, has_append}
use Rattle.cert_checker.specs.NodeTables.{TableParts, AreTables, TablesGrow, IsTest, IsTerm, term_at, holds_at}
use Rattle.cert_checker.specs.Targets.{chosen, AreEntries, Represent}
use Rattle.cert_checker.specs.Targets.{guard_of}
use Rattle.term_nodes.proofs.Prefixes.{IsPrefix-within}
use Rattle.cert_checker.proofs.ChosenTargets.{chosen_has, has_chosen, guard_member, any_value}

pub entry_added : (t : TableParts) (es : List (ℕ × ℕ)) (k g : ℕ) → IsTerm t k → IsTest t g → AreEntries t es → AreEntries t ((k, g) ∷ es)
entry_added t es k g term test own e h = ⊎_elim (λ s. subst (λ (p : ℕ × ℕ). IsTerm t p.0 × IsTest t p.1) s (term, test)) (λ m. own e m) h

-- ---- growing tables

module _ (old new : TableParts) (are : AreTables old) (grows : TablesGrow old new) where
  pub test_within : (k : ℕ) → IsTest old k → IsTest new k
  test_within k h = IsPrefix-within old.tests new.tests k grows.nodes.tests h

  pub term_within : (k : ℕ) → IsTerm old k → IsTerm new k
  term_within k h = IsPrefix-within old.terms new.terms k grows.nodes.terms h

  pub holds_kept : (k : ℕ) (atom : Atom) → IsTest old k → holds_at new k atom ≡ holds_at old k atom
  holds_kept k atom h = ap (λ b. truth b atom) (grows.nodes.test_trees k h)

  pub entries_kept : (es : List (ℕ × ℕ)) → AreEntries old es → AreEntries new es
  entries_kept es own e h = (term_within e.0 (own e h).0, test_within e.1 (own e h).1)

  pub chosen_kept : (es : List (ℕ × ℕ)) (atom : Atom) → AreEntries old es → chosen new es atom ≡ chosen old es atom
  chosen_kept [] atom own = refl
  chosen_kept (e ∷ es) atom own =
      ap₂ (λ l m. l ++ m)
      (ap₂ (λ (b : Bool) (x : Term). cond b (x ∷ []) []) (holds_kept e.1 atom (own e (inl refl)).1) (grows.nodes.trees e.0 (own e (inl refl)).0))
      (chosen_kept es atom (λ d m. own d (inr m)))

-- ---- an additional target

module _ (k g : ℕ) where
  pub insert_only : (es : List (ℕ × ℕ)) (e : ℕ × ℕ) → Has (insert_entry nat_cmp es k g) e → (e ≡ (k, g)) ⊎ Has es e
  insert_only [] e h = ⊎_elim (λ s. inl (sym s)) absurd h
  insert_only (d ∷ es) e h = go (insert_only es e) (nat_cmp k d.0) refl h
    where
      go : (Has (insert_entry nat_cmp es k g) e → (e ≡ (k, g)) ⊎ Has es e) → (o : Ordering) → nat_cmp k d.0 ≡ o → Has (match_ordering o ((k, g) ∷ d ∷ es) ((d.0, g) ∷ es) (d ∷ insert_entry nat_cmp es k g)) e → (e ≡ (k, g)) ⊎ Has (d ∷ es) e
      go rest Less s m = ⊎_elim (λ a. inl (sym a)) inr m
      go rest Equal s m = ⊎_elim (λ a. inl (sym a ∙ ap (λ (j : ℕ). (j, g)) (sym (exact_unsigned k d.0 s)))) (λ r. inr (inr r)) m
      go rest Greater s m = ⊎_elim (λ a. inr (inl a)) (λ r. ⊎_elim inl (λ q. inr (inr q)) (rest r)) m

  pub insert_new : (es : List (ℕ × ℕ)) → Has (insert_entry nat_cmp es k g) (k, g)
  insert_new [] = inl refl
  insert_new (d ∷ es) = go (insert_new es) (nat_cmp k d.0) refl
    where
      go : Has (insert_entry nat_cmp es k g) (k, g) → (o : Ordering) → nat_cmp k d.0 ≡ o → Has (match_ordering o ((k, g) ∷ d ∷ es) ((d.0, g) ∷ es) (d ∷ insert_entry nat_cmp es k g)) (k, g)
      go rest Less s = inl refl
      go rest Equal s = inl (ap (λ (j : ℕ). (j, g)) (sym (exact_unsigned k d.0 s)))
      go rest Greater s = inr rest

  -- an older entry remains, or it was the entry of this key
  pub insert_old : (es : List (ℕ × ℕ)) (e : ℕ × ℕ) → Has es e → Has (insert_entry nat_cmp es k g) e ⊎ ((e.0 ≡ k) × (guard_of es k ≡ Some e.1))
  insert_old [] e h = absurd h
  insert_old (d ∷ es) e h = go (insert_old es e) (nat_cmp k d.0) refl h
    where
      go : (Has es e → Has (insert_entry nat_cmp es k g) e ⊎ ((e.0 ≡ k) × (guard_of es k ≡ Some e.1))) → (o : Ordering) → nat_cmp k d.0 ≡ o → Has (d ∷ es) e → Has (match_ordering o ((k, g) ∷ d ∷ es) ((d.0, g) ∷ es) (d ∷ insert_entry nat_cmp es k g)) e ⊎ ((e.0 ≡ k) × (cond (is_eq (nat_cmp k d.0)) (Some d.1) (guard_of es k) ≡ Some e.1))
      go rest Less s m = inl (inr m)
      go rest Equal s m =
          ⊎_elim
          (λ a. inr (ap (λ (p : ℕ × ℕ). p.0) (sym a) ∙ sym (exact_unsigned k d.0 s), rw s (ap (λ (p : ℕ × ℕ). Some p.1) a)))
          (λ r. inl (inr r))
          m
      go rest Greater s m =
          ⊎_elim
          (λ a. inl (inl a))
          (λ r. ⊎_elim (λ q. inl (inr q)) (λ q. inr (q.0, rw s q.1)) (rest r))
          m

module _ (old new : TableParts) (are : AreTables old) (grows : TablesGrow old new) (es : List (ℕ × ℕ)) (own : AreEntries old es)
    (k guard joined : ℕ) (is_term : IsTerm old k) (is_test : IsTest new joined)
    (value : (atom : Atom) → holds_at new joined atom ≡ (option_map_or (λ o. holds_at old o atom) (guard_of es k) false || holds_at old guard atom)) where
  -- the list with the added target stands for the previous terms and the added one
  pub added_represents : Represent new (insert_entry nat_cmp es k joined) (λ atom. chosen old es atom ++ cond (holds_at old guard atom) (term_at old k ∷ []) [])
  added_represents = record { entries = entries; same = λ atom x. (to atom x, from atom x) }
    where
      entries : AreEntries new (insert_entry nat_cmp es k joined)
      entries e h =
          ⊎_elim
          (λ s. subst (λ (p : ℕ × ℕ). IsTerm new p.0 × IsTest new p.1) (sym s) (term_within old new are grows k is_term, is_test))
          (λ m. entries_kept old new are grows es own e m)
          (insert_only k joined es e h)

      name : term_at new k ≡ term_at old k
      name = grows.nodes.trees k is_term

      right : (atom : Atom) (x : Term) → holds_at old guard atom ≡ true → term_at old k ≡ x → Has (cond (holds_at old guard atom) (term_at old k ∷ []) []) x
      right atom x h s = rw h (inl s)

      to : (atom : Atom) (x : Term) → Has (chosen new (insert_entry nat_cmp es k joined) atom) x → Has (chosen old es atom ++ cond (holds_at old guard atom) (term_at old k ∷ []) []) x
      to atom x h =
          let f = has_chosen new (insert_entry nat_cmp es k joined) atom x h in
          ⊎_elim
          (λ s.
          let both : (option_map_or (λ o. holds_at old o atom) (guard_of es k) false || holds_at old guard atom) ≡ true = sym (value atom) ∙ ap (λ (p : ℕ × ℕ). holds_at new p.1 atom) (sym s) ∙ f.2 in
          let here : term_at old k ≡ x = sym name ∙ ap (λ (p : ℕ × ℕ). term_at new p.0) (sym s) ∙ f.3 in
          ⊎_elim
          (λ o.
          let v = any_value (λ o. holds_at old o atom) (guard_of es k) o in
          has_left (chosen old es atom) _ x (subst (Has (chosen old es atom)) here (chosen_has old es atom (k, v.0) (guard_member k es v.0 v.1) v.2)))
          (λ g. has_right (chosen old es atom) _ x (right atom x g here))
          (or_cases (option_map_or (λ o. holds_at old o atom) (guard_of es k) false) (holds_at old guard atom) both))
          (λ m.
          let true_here : holds_at old f.0.1 atom ≡ true = sym (holds_kept old new are grows f.0.1 atom (own f.0 m).1) ∙ f.2 in
          let there : term_at old f.0.0 ≡ x = sym (grows.nodes.trees f.0.0 (own f.0 m).0) ∙ f.3 in
          has_left (chosen old es atom) _ x (subst (Has (chosen old es atom)) there (chosen_has old es atom f.0 m true_here)))
          (insert_only k joined es f.0 f.1)

      -- the added target is chosen if its guard is true or the previous guard was
      chosen_added : (atom : Atom) → (option_map_or (λ o. holds_at old o atom) (guard_of es k) false || holds_at old guard atom) ≡ true → Has (chosen new (insert_entry nat_cmp es k joined) atom) (term_at old k)
      chosen_added atom h =
          subst (Has (chosen new (insert_entry nat_cmp es k joined) atom)) name
          (chosen_has new (insert_entry nat_cmp es k joined) atom (k, joined) (insert_new k joined es) (value atom ∙ h))

      from : (atom : Atom) (x : Term) → Has (chosen old es atom ++ cond (holds_at old guard atom) (term_at old k ∷ []) []) x → Has (chosen new (insert_entry nat_cmp es k joined) atom) x
      from atom x h =
          ⊎_elim
          (λ l.
          let f = has_chosen old es atom x l in
          ⊎_elim
          (λ m.
          subst (Has (chosen new (insert_entry nat_cmp es k joined) atom)) (grows.nodes.trees f.0.0 (own f.0 f.1).0 ∙ f.3)
          (chosen_has new (insert_entry nat_cmp es k joined) atom f.0 m (holds_kept old new are grows f.0.1 atom (own f.0 f.1).1 ∙ f.2)))
          (λ s.
          let was : option_map_or (λ o. holds_at old o atom) (guard_of es k) false ≡ true = ap (λ g. option_map_or (λ o. holds_at old o atom) g false) s.1 ∙ f.2 in
          subst (Has (chosen new (insert_entry nat_cmp es k joined) atom)) (ap (term_at old) (sym s.0) ∙ f.3) (chosen_added atom (or_left _ (holds_at old guard atom) was)))
          (insert_old k joined es f.0 f.1))
          (λ r. by_guard (holds_at old guard atom) refl r)
          (has_append (chosen old es atom) _ x h)
        where
          by_guard : (b : Bool) → holds_at old guard atom ≡ b → Has (cond b (term_at old k ∷ []) []) x → Has (chosen new (insert_entry nat_cmp es k joined) atom) x
          by_guard true e m = ⊎_elim (λ s. subst (Has (chosen new (insert_entry nat_cmp es k joined) atom)) s (chosen_added atom (or_right (option_map_or (λ o. holds_at old o atom) (guard_of es k) false) _ e))) absurd m
          by_guard false e m = absurd m

-- under a guard that is never true nothing is added
pub never_represents : (t : TableParts) (es : List (ℕ × ℕ)) (guard : ℕ) (more : Atom → List Term) → AreEntries t es → ((atom : Atom) → holds_at t guard atom ≡ false) → Represent t es (λ atom. chosen t es atom ++ cond (holds_at t guard atom) (more atom) [])
never_represents t es guard more own never = record {
  entries = own;
  same = λ atom. subst (λ b. SameMembers (chosen t es atom) (chosen t es atom ++ cond b (more atom) [])) (sym (never atom))
      (subst (SameMembers (chosen t es atom)) (sym (append-nil (chosen t es atom))) (λ x. ((λ h. h), (λ h. h))));
}
