-- The guards of the last moves to targets, and tables after moves are added.
use Rattle.std.proofs.Common.{◌≡◌, ◌<◌, ◌+◌, ◌↔◌, inl, inr, ⊎_elim, ℕ, Bool, true, false, cond, ◌&&◌, nat_eq, List, [], ◌∷◌, ◌++◌, length, get_or, take, Some, refl, sym, ap, ◌∙◌, subst}
use Rattle.std.proofs.lemmas.Bool.{and_parts, false≢true, eqb-true, eq-eqb, ne_eqb, and_from, and_right}
use Rattle.std.proofs.lemmas.Cmp.{nat_cmp_total}
use Rattle.std.proofs.lemmas.Map.Lookups.{exact_unsigned}
use Rattle.std.proofs.lemmas.Map.Views.{tells_apart}
use Rattle.std.specs.Map.{lookup}
use Rattle.std.specs.BTreeMap.{is_at}
use Rattle.std.specs.Ordering.{nat_cmp}
use Rattle.kat_model.specs.Members.{Has}
use Rattle.kat_model.specs.Steps.{Atom}
use Rattle.kat_model.proofs.SetKeys.{is_at_own}
use Rattle.test_diagrams.specs.Functions.{DiagramsParts, value_of}
use Rattle.partial_derivs.specs.declared.moves.Guarded.{Guarded}
use Rattle.partial_derivs.specs.Moves.{AreMerged}
use Rattle.partial_derivs.proofs.Items.{take_item}
use Rattle.walk_pairs.specs.declared.items.Item.{Item}
use Rattle.walk_pairs.specs.declared.items.Side.{Side}
use Rattle.walk_pairs.specs.Items.{guard_of, led, last_guard, found_item, item_in, AddsMoves}

-- whether the move has the action and leads to the target
abbrev pub is_hit : ℕ → ℕ → Guarded → Bool
is_hit act t m = nat_eq m.act act && nat_eq m.to t

hit_parts : (act t : ℕ) (m : Guarded) → is_hit act t m ≡ true → (m.act ≡ act) × (m.to ≡ t)
hit_parts act t m e = let p = and_parts (nat_eq m.act act) (nat_eq m.to t) e in (eqb-true m.act act p.0, eqb-true m.to t p.1)

no_hit : (act t : ℕ) (m : Guarded) → (m.act ≡ act → m.to ≡ t → ⊥) → is_hit act t m ≡ false
no_hit act t m f = go (is_hit act t m) refl
  where
    go : (b : Bool) → is_hit act t m ≡ b → b ≡ false
    go true e = let p = hit_parts act t m e in absurd (f p.0 p.1)
    go false e = refl

last_guard-append : (ms : List Guarded) (m : Guarded) (act t before : ℕ) → last_guard (ms ++ m ∷ []) act t before ≡ cond (is_hit act t m) m.guard (last_guard ms act t before)
last_guard-append [] m act t before = refl
last_guard-append (n ∷ ms) m act t before = last_guard-append ms m act t (cond (is_hit act t n) n.guard before)

-- a last guard is the guard of some move, or the given earlier one
pub last_guard_all : (P : ℕ → Type 0) (ms : List Guarded) (act t before : ℕ) → ((m : Guarded) → Has ms m → P m.guard) → P before → P (last_guard ms act t before)
last_guard_all P [] act t before all p = p
last_guard_all P (m ∷ ms) act t before all p = last_guard_all P ms act t (cond (is_hit act t m) m.guard before) (λ n h. all n (inr h)) (go (is_hit act t m))
  where
    go : (b : Bool) → P (cond b m.guard before)
    go true = all m (inl refl)
    go false = p

-- ---- the targets at an atom

module _ (d : DiagramsParts) (act : ℕ) (atom : Atom) (t : ℕ) where
  -- no move by the action leads to the target
  abbrev IsMissed : List Guarded → Type 0
  IsMissed ms = (n : Guarded) → Has ms n → n.act ≡ act → n.to ≡ t → ⊥

  last_missed : (ms : List Guarded) (before : ℕ) → IsMissed ms → last_guard ms act t before ≡ before
  last_missed [] before none = refl
  last_missed (m ∷ ms) before none =
      ap (λ b. last_guard ms act t (cond b m.guard before)) (no_hit act t m (none m (inl refl))) ∙ last_missed ms before (λ n h. none n (inr h))

  led_missed : (ms : List Guarded) → IsMissed ms → Has (led d ms act atom) t → ⊥
  led_missed [] none h = h
  led_missed (m ∷ ms) none h = go (led_missed ms (λ n k. none n (inr k))) (nat_eq m.act act) refl (value_of d m.guard atom) h
    where
      go : (Has (led d ms act atom) t → ⊥) → (a : Bool) → nat_eq m.act act ≡ a → (b : Bool) → Has (cond (a && b) (m.to ∷ led d ms act atom) (led d ms act atom)) t → ⊥
      go rest true e true k = ⊎_elim (λ s. none m (inl refl) (eqb-true m.act act e) s) rest k
      go rest true e false k = rest k
      go rest false e b k = rest k

  -- the moves lead to a target exactly when the last guard of the target is true
  pub led_last : (ms : List Guarded) (before : ℕ) → AreMerged ms → value_of d before atom ≡ false → Has (led d ms act atom) t ↔ (value_of d (last_guard ms act t before) atom ≡ true)
  led_last [] before merged nowhere = (absurd, (λ v. false≢true (sym nowhere ∙ v)))
  led_last (m ∷ ms) before merged nowhere = go (led_last ms before merged.1 nowhere) (nat_eq m.act act) refl (nat_eq m.to t) refl
    where
      go : (Has (led d ms act atom) t ↔ (value_of d (last_guard ms act t before) atom ≡ true)) → (a : Bool) → nat_eq m.act act ≡ a → (b : Bool) → nat_eq m.to t ≡ b
          → Has (cond (a && value_of d m.guard atom) (m.to ∷ led d ms act atom) (led d ms act atom)) t ↔ (value_of d (last_guard ms act t (cond (a && b) m.guard before)) atom ≡ true)
      go other true e true f = at (value_of d m.guard atom) refl
        where
          alone : IsMissed ms
          alone n h p q = merged.0 n h (p ∙ sym (eqb-true m.act act e)) (q ∙ sym (eqb-true m.to t f))

          last : last_guard ms act t m.guard ≡ m.guard
          last = last_missed ms m.guard alone

          at : (v : Bool) → value_of d m.guard atom ≡ v → Has (cond v (m.to ∷ led d ms act atom) (led d ms act atom)) t ↔ (value_of d (last_guard ms act t m.guard) atom ≡ true)
          at true v = ((λ h. ap (λ g. value_of d g atom) last ∙ v), (λ h. inl (eqb-true m.to t f)))
          at false v = ((λ h. absurd (led_missed ms alone h)), (λ h. absurd (false≢true (sym v ∙ ap (λ g. value_of d g atom) (sym last) ∙ h))))
      go other true e false f = at (value_of d m.guard atom)
        where
          at : (v : Bool) → Has (cond v (m.to ∷ led d ms act atom) (led d ms act atom)) t ↔ (value_of d (last_guard ms act t before) atom ≡ true)
          at true = ((λ h. ⊎_elim (λ s. absurd (false≢true (sym f ∙ eq-eqb m.to t s))) other.0 h), (λ v. inr (other.1 v)))
          at false = other
      go other false e b f = other

-- ---- adding moves to a table

module _ (never : ℕ) (side other : Side) (act : ℕ) (old es : List (ℕ × Item)) where
  module _ (moves : List Guarded) (i : ℕ) where
    module _ (m : Guarded) (lt : i < length moves) (is : m ≡ get_or moves i m) where
      front : take (i + 1) moves ≡ take i moves ++ m ∷ []
      front = take_item moves i m lt is

      last_front : (t before : ℕ) → last_guard (take (i + 1) moves) act t before ≡ cond (is_hit act t m) m.guard (last_guard (take i moves) act t before)
      last_front t before = ap (λ ms. last_guard ms act t before) front ∙ last_guard-append (take i moves) m act t before

      -- skipping a move by another action
      pub adds_skipped : nat_eq m.act act ≡ false → AddsMoves never side other old es (take i moves) act → AddsMoves never side other old es (take (i + 1) moves) act
      adds_skipped e a = record {
        there = λ t. a.there t ∙ sym (last_front t (guard_of side (item_in never old t)) ∙ ap (λ b. cond (b && nat_eq m.to t) m.guard (last_guard (take i moves) act t (guard_of side (item_in never old t)))) e);
        kept = a.kept;
      }

      -- adding a move by the action
      pub adds_move : (new : List (ℕ × Item)) (item : Item) → nat_eq m.act act ≡ true → guard_of side item ≡ m.guard → guard_of other item ≡ guard_of other (item_in never es m.to)
          → ((q : ℕ) → lookup (is_at (nat_cmp q)) new ≡ cond (is_at (nat_cmp m.to) q) (Some item) (lookup (is_at (nat_cmp q)) es))
          → AddsMoves never side other old es (take i moves) act → AddsMoves never side other old new (take (i + 1) moves) act
      adds_move new item e own across updates a = record {
        there = λ t. ap (λ o. guard_of side (found_item never t o)) (updates t) ∙ there t (is_at (nat_cmp m.to) t) refl ∙ sym (last_front t (guard_of side (item_in never old t)));
        kept = λ t. ap (λ o. guard_of other (found_item never t o)) (updates t) ∙ kept t (is_at (nat_cmp m.to) t) refl ∙ a.kept t;
      }
        where
          there : (t : ℕ) (b : Bool) → is_at (nat_cmp m.to) t ≡ b
              → guard_of side (found_item never t (cond b (Some item) (lookup (is_at (nat_cmp t)) es))) ≡ cond (is_hit act t m) m.guard (last_guard (take i moves) act t (guard_of side (item_in never old t)))
          there t true f =
              let same : m.to ≡ t = tells_apart exact_unsigned m.to t f in
              let hit : is_hit act t m ≡ true = and_from (nat_eq m.act act) (nat_eq m.to t) e (eq-eqb m.to t same) in
              own ∙ sym (ap (λ b. cond b m.guard (last_guard (take i moves) act t (guard_of side (item_in never old t)))) hit)
          there t false f =
              let apart : m.to ≡ t → ⊥ = λ s. false≢true (sym f ∙ subst (λ q. is_at (nat_cmp m.to) q ≡ true) s (is_at_own nat_cmp_total m.to)) in
              let miss : is_hit act t m ≡ false = and_right (nat_eq m.act act) (nat_eq m.to t) (ne_eqb m.to t apart) in
              a.there t ∙ sym (ap (λ b. cond b m.guard (last_guard (take i moves) act t (guard_of side (item_in never old t)))) miss)

          kept : (t : ℕ) (b : Bool) → is_at (nat_cmp m.to) t ≡ b → guard_of other (found_item never t (cond b (Some item) (lookup (is_at (nat_cmp t)) es))) ≡ guard_of other (item_in never es t)
          kept t true f = across ∙ ap (λ q. guard_of other (item_in never es q)) (tells_apart exact_unsigned m.to t f)
          kept t false f = refl
