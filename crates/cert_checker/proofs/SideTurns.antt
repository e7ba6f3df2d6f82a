-- The loop over the targets of one side of a question.
use Rattle.std.proofs.Common.{◌≡◌, ℕ, inl, inr, ⊎_elim, List, [], ◌∷◌, ◌++◌, append_assoc, refl, sym, ap, ◌∙◌, subst, Bool, true, false, ◌||◌, cond, Option, Some, None}
use Rattle.std.specs.Option.{option_or, MatchOption}
use Rattle.std.specs.List.Sorted.{IsStrictlySortedBy}
use Rattle.std.specs.Map.{keys_of}
use Rattle.std.specs.Ordering.{nat_cmp}
use Rattle.std.proofs.lemmas.Bool.{true≢false}
use Rattle.std.proofs.lemmas.List.{append-nil}
use Rattle.std.proofs.lemmas.Option.{same_Some}
use Rattle.kat_model.specs.Members.{Has, IsSubset}
use Rattle.cert_checker.specs.Targets.{guard_of}
use Rattle.cert_checker.specs.declared.known.Truth.{Truth}
use Rattle.cert_checker.specs.declared.known.Truth.TheVariants.{Known, Undecided as UndecidedBy}
use Rattle.cert_checker.specs.declared.sides.TargetSide.{TargetSide}
use Rattle.cert_checker.specs.Cases.{known_of, truly, falsely}
use Rattle.cert_checker.specs.Sides.{sure_targets, has_too, open_targets, AreSettled, AreSettledAmong, IsWaitedBy, IsTargetSide}
use Rattle.cert_checker.specs.Working.AddedTargets.{AddsPossible, AddsTarget}
use Rattle.cert_checker.proofs.TargetKeys.{guard_found, open_entry}

-- the guards of targets that may be only on this side have known values
abbrev pub AreOpenSettled : List Truth → List (ℕ × ℕ) → List (ℕ × ℕ) → Type 0
AreOpenSettled known others es = (e : ℕ × ℕ) → Has es e → (falsely (known_of known e.1) || has_too known others e.0 e.1) ≡ false → (b : Bool) × (known_of known e.1 ≡ Known b)

-- the lists are those of the targets before `rest`; without a given test, no guard of those targets waits
pub record IsSideOf (known : List Truth) (others es rest : List (ℕ × ℕ)) (ks ls : List ℕ) (o p : Option ℕ) : Type 0 where
  pub sure : ks ++ sure_targets known rest ≡ sure_targets known es
  pub alone : ls ++ open_targets known others rest ≡ open_targets known others es
  pub within : IsSubset rest es
  pub alone_waits : MatchOption o (AreOpenSettled known others rest → AreOpenSettled known others es) (IsWaitedBy known es)
  pub waits : MatchOption p (AreSettled known rest → AreSettled known es) (IsWaitedBy known es)

match_then : (o : Option ℕ) (A B : Type 0) (W : ℕ → Type 0) → (A → B) → MatchOption o A W → MatchOption o B W
match_then None A B W f h = f h
match_then (Some k) A B W f h = h

or_then : (o p : Option ℕ) (A B C : Type 0) (W : ℕ → Type 0) → (A → C → B) → MatchOption o A W → MatchOption p C W → MatchOption (option_or o p) B W
or_then None None A B C W f h k = f h k
or_then None (Some j) A B C W f h k = k
or_then (Some i) p A B C W f h k = h

module _ (known : List Truth) (others es : List (ℕ × ℕ)) where
  -- for a target that may be present: `now` and the rest give the surely present terms; its guard has a known value or
  -- waits for the test
  record IsFound (more : List (ℕ × ℕ)) (d : ℕ × ℕ) (now : List ℕ) (w : Option ℕ) : Type 0 where
    pub sure : now ++ sure_targets known more ≡ sure_targets known es
    pub may : falsely (known_of known d.1) ≡ false
    pub given : MatchOption w ((b : Bool) × (known_of known d.1 ≡ Known b)) (IsWaitedBy known es)

  -- an additional target
  module _ (rest more : List (ℕ × ℕ)) (d : ℕ × ℕ) (cut : rest ≡ d ∷ more) (ks ls : List ℕ) (o p : Option ℕ) (before : IsSideOf known others es rest ks ls o p) where
    sure_cut : (x : Truth) → known_of known d.1 ≡ x → sure_targets known rest ≡ cond (truly x) (d.0 ∷ sure_targets known more) (sure_targets known more)
    sure_cut x e = ap (sure_targets known) cut ∙ ap (λ (y : Truth). cond (truly y) (d.0 ∷ sure_targets known more) (sure_targets known more)) e

    open_cut : (a b : Bool) → falsely (known_of known d.1) ≡ a → has_too known others d.0 d.1 ≡ b → open_targets known others rest ≡ cond (a || b) (open_targets known others more) (d.0 ∷ open_targets known others more)
    open_cut a b e f =
        ap (open_targets known others) cut ∙ ap (λ (x : Bool). cond (x || has_too known others d.0 d.1) (open_targets known others more) (d.0 ∷ open_targets known others more)) e
        ∙ ap (λ (x : Bool). cond (a || x) (open_targets known others more) (d.0 ∷ open_targets known others more)) f

    here : Has es d
    here = before.within d (subst (λ (l : List (ℕ × ℕ)). Has l d) (sym cut) (inl refl))

    within_more : IsSubset more es
    within_more e h = before.within e (subst (λ (l : List (ℕ × ℕ)). Has l e) (sym cut) (inr h))

    settled_more : (b : Bool) × (known_of known d.1 ≡ Known b) → AreSettled known more → AreSettled known rest
    settled_more value s = subst (AreSettled known) (sym cut) (λ e h. ⊎_elim (λ same. subst (λ (z : ℕ × ℕ). (b : Bool) × (known_of known z.1 ≡ Known b)) same value) (s e) h)

    open_more : ((falsely (known_of known d.1) || has_too known others d.0 d.1) ≡ false → (b : Bool) × (known_of known d.1 ≡ Known b)) → AreOpenSettled known others more → AreOpenSettled known others rest
    open_more value s =
        subst (AreOpenSettled known others) (sym cut)
        (λ e h. ⊎_elim (λ same. subst (λ (z : ℕ × ℕ). (falsely (known_of known z.1) || has_too known others z.0 z.1) ≡ false → (b : Bool) × (known_of known z.1 ≡ Known b)) same value) (s e) h)

    -- a surely absent target
    side_skipped : known_of known d.1 ≡ Known false → IsSideOf known others es more ks ls o p
    side_skipped e =
        let value : (b : Bool) × (known_of known d.1 ≡ Known b) = (false, e) in
        record {
          sure = ap (λ (l : List ℕ). ks ++ l) (sym (sure_cut (Known false) e)) ∙ before.sure;
          alone = ap (λ (l : List ℕ). ls ++ l) (sym (open_cut true (has_too known others d.0 d.1) (ap falsely e) refl)) ∙ before.alone;
          within = within_more;
          alone_waits = match_then o (AreOpenSettled known others rest → AreOpenSettled known others es) (AreOpenSettled known others more → AreOpenSettled known others es) (IsWaitedBy known es) (λ f s. f (open_more (λ _. value) s)) before.alone_waits;
          waits = match_then p (AreSettled known rest → AreSettled known es) (AreSettled known more → AreSettled known es) (IsWaitedBy known es) (λ f s. f (settled_more value s)) before.waits;
        }

    found_true : (now : List ℕ) (w : Option ℕ) → known_of known d.1 ≡ Known true → now ≡ ks ++ d.0 ∷ [] → w ≡ None → IsFound more d now w
    found_true now w e is none = record {
      sure = ap (λ (l : List ℕ). l ++ sure_targets known more) is ∙ append_assoc ks (d.0 ∷ []) (sure_targets known more) ∙ ap (λ (l : List ℕ). ks ++ l) (sym (sure_cut (Known true) e)) ∙ before.sure;
      may = ap falsely e;
      given = subst (λ (u : Option ℕ). MatchOption u ((b : Bool) × (known_of known d.1 ≡ Known b)) (IsWaitedBy known es)) (sym none) (true, e);
    }

    found_waits : (now : List ℕ) (w : Option ℕ) (k : ℕ) → known_of known d.1 ≡ UndecidedBy k → now ≡ ks → w ≡ Some k → IsFound more d now w
    found_waits now w k e is some = record {
      sure = ap (λ (l : List ℕ). l ++ sure_targets known more) is ∙ ap (λ (l : List ℕ). ks ++ l) (sym (sure_cut (UndecidedBy k) e)) ∙ before.sure;
      may = ap falsely e;
      given = subst (λ (u : Option ℕ). MatchOption u ((b : Bool) × (known_of known d.1 ≡ Known b)) (IsWaitedBy known es)) (sym some) (d, here, e);
    }

    module _ (now : List ℕ) (w : Option ℕ) (found : IsFound more d now w) where
      waits_now : MatchOption (option_or p w) (AreSettled known more → AreSettled known es) (IsWaitedBy known es)
      waits_now =
          or_then p w (AreSettled known rest → AreSettled known es) (AreSettled known more → AreSettled known es) ((b : Bool) × (known_of known d.1 ≡ Known b)) (IsWaitedBy known es) (λ f value s. f (settled_more value s)) before.waits
          found.given

      -- a target that is also in the other set
      side_shared : has_too known others d.0 d.1 ≡ true → IsSideOf known others es more now ls o (option_or p w)
      side_shared e =
          let off : (falsely (known_of known d.1) || has_too known others d.0 d.1) ≡ true = ap (λ (b : Bool). b || has_too known others d.0 d.1) found.may ∙ e in
          record {
            sure = found.sure;
            alone = ap (λ (l : List ℕ). ls ++ l) (sym (open_cut false true found.may e)) ∙ before.alone;
            within = within_more;
            alone_waits =
                match_then o (AreOpenSettled known others rest → AreOpenSettled known others es) (AreOpenSettled known others more → AreOpenSettled known others es) (IsWaitedBy known es)
                (λ f s. f (open_more (λ on. absurd (true≢false (sym off ∙ on))) s)) before.alone_waits;
            waits = waits_now;
          }

      side_alone : has_too known others d.0 d.1 ≡ false → IsSideOf known others es more now (ls ++ d.0 ∷ []) (option_or o w) (option_or p w)
      side_alone e = record {
        sure = found.sure;
        alone = append_assoc ls (d.0 ∷ []) (open_targets known others more) ∙ ap (λ (l : List ℕ). ls ++ l) (sym (open_cut false false found.may e)) ∙ before.alone;
        within = within_more;
        alone_waits =
            or_then o w (AreOpenSettled known others rest → AreOpenSettled known others es) (AreOpenSettled known others more → AreOpenSettled known others es) ((b : Bool) × (known_of known d.1 ≡ Known b)) (IsWaitedBy known es)
            (λ f value s. f (open_more (λ _. value) s)) before.alone_waits found.given;
        waits = waits_now;
      }

  -- an added target
  module _ (rest more : List (ℕ × ℕ)) (d : ℕ × ℕ) (cut : rest ≡ d ∷ more) (s z : TargetSide) (before : IsSideOf known others es rest s.sure.items s.alone.items s.alone_waits s.waits) where
    as_added : (ks ls : List ℕ) (o p : Option ℕ) → z.sure.items ≡ ks → z.alone.items ≡ ls → z.alone_waits ≡ o → z.waits ≡ p → IsSideOf known others es more ks ls o p → IsSideOf known others es more z.sure.items z.alone.items z.alone_waits z.waits
    as_added ks ls o p a b c e h =
        subst (λ (l : List ℕ). IsSideOf known others es more l z.alone.items z.alone_waits z.waits) (sym a)
        (subst (λ (l : List ℕ). IsSideOf known others es more ks l z.alone_waits z.waits) (sym b)
        (subst (λ (u : Option ℕ). IsSideOf known others es more ks ls u z.waits) (sym c)
        (subst (λ (u : Option ℕ). IsSideOf known others es more ks ls o u) (sym e) h)))

    possible_added : (now : List ℕ) (w : Option ℕ) → IsFound more d now w → (too : Bool) → has_too known others d.0 d.1 ≡ too → AddsPossible too d.0 w now s z → IsSideOf known others es more z.sure.items z.alone.items z.alone_waits z.waits
    possible_added now w found true e added =
        as_added now s.alone.items s.alone_waits (option_or s.waits w) added.sure added.alone added.alone_waits added.waits
        (side_shared rest more d cut s.sure.items s.alone.items s.alone_waits s.waits before now w found e)
    possible_added now w found false e added =
        as_added now (s.alone.items ++ d.0 ∷ []) (option_or s.alone_waits w) (option_or s.waits w) added.sure added.alone added.alone_waits added.waits
        (side_alone rest more d cut s.sure.items s.alone.items s.alone_waits s.waits before now w found e)

    pub side_added : AddsTarget (known_of known d.1) (has_too known others d.0 d.1) d.0 s z → IsSideOf known others es more z.sure.items z.alone.items z.alone_waits z.waits
    side_added added = go (known_of known d.1) refl added
      where
        go : (x : Truth) → known_of known d.1 ≡ x → AddsTarget x (has_too known others d.0 d.1) d.0 s z → IsSideOf known others es more z.sure.items z.alone.items z.alone_waits z.waits
        go (Known false) e same =
            subst (λ (y : TargetSide). IsSideOf known others es more y.sure.items y.alone.items y.alone_waits y.waits) (sym same)
            (side_skipped rest more d cut s.sure.items s.alone.items s.alone_waits s.waits before e)
        go (Known true) e adds =
            possible_added (s.sure.items ++ d.0 ∷ []) None
            (found_true rest more d cut s.sure.items s.alone.items s.alone_waits s.waits before (s.sure.items ++ d.0 ∷ []) None e refl refl) (has_too known others d.0 d.1) refl adds
        go (UndecidedBy k) e adds =
            possible_added s.sure.items (Some k)
            (found_waits rest more d cut s.sure.items s.alone.items s.alone_waits s.waits before s.sure.items (Some k) k e refl refl) (has_too known others d.0 d.1) refl adds

  -- ---- the end of the loop

  open_among : IsStrictlySortedBy nat_cmp (keys_of es) → AreOpenSettled known others es → AreSettledAmong known es (open_targets known others es)
  open_among sorted settled k g h at =
      let f = open_entry known others es k h in
      let same : f.0.1 ≡ g = same_Some f.0.1 g (sym (guard_found es f.0 sorted f.1) ∙ ap (guard_of es) f.2 ∙ at) in
      subst (λ (j : ℕ). (b : Bool) × (known_of known j ≡ Known b)) same (settled f.0 f.1 f.3)

  pub side_whole : (s : TargetSide) (rest : List (ℕ × ℕ)) → rest ≡ [] → IsStrictlySortedBy nat_cmp (keys_of es) → IsSideOf known others es rest s.sure.items s.alone.items s.alone_waits s.waits → IsTargetSide known others es s
  side_whole s rest none sorted side =
      let none_left : (e : ℕ × ℕ) → Has rest e → ⊥ = λ e h. subst (λ (l : List (ℕ × ℕ)). Has l e) none h in
      record {
        ascends = sorted;
        sure = sym (append-nil s.sure.items) ∙ ap (λ (l : List (ℕ × ℕ)). s.sure.items ++ sure_targets known l) (sym none) ∙ side.sure;
        alone = sym (append-nil s.alone.items) ∙ ap (λ (l : List (ℕ × ℕ)). s.alone.items ++ open_targets known others l) (sym none) ∙ side.alone;
        alone_waits =
            match_then s.alone_waits (AreOpenSettled known others rest → AreOpenSettled known others es) (AreSettledAmong known es (open_targets known others es)) (IsWaitedBy known es)
            (λ f. open_among sorted (f (λ e h off. absurd (none_left e h)))) side.alone_waits;
        waits = match_then s.waits (AreSettled known rest → AreSettled known es) (AreSettled known es) (IsWaitedBy known es) (λ f. f (λ e h. absurd (none_left e h))) side.waits;
      }
