-- The ends of the runs of a goal from a store are determined, so a trial finds a store or none.
use Rattle.std.proofs.Common.{◌≡◌, ◌↔◌, ◌<◌, ◌≤◌, ◌+◌, ℕ, zero, suc, List, [], ◌∷◌, length, get_or, drop, slice_get, Some, refl, sym, ap, ◌∙◌, subst, true, below_more, arith}
use Rattle.std.proofs.lemmas.List.{drop_more, drop_all}
use Rattle.std.proofs.lemmas.Option.{same_Some, none-some, slice_get_read}
use Rattle.kat_model.specs.Stores.{Store}
use Rattle.kat_model.specs.declared.expression.Width.{Width}
use Rattle.while_lang.specs.Programs.{ProgTree, is_concrete}
use Rattle.while_lang.specs.Runs.{HasOutcome, HasOneOutcome}
use Rattle.while_lang.specs.declared.outcome.Outcome.{Outcome}
use Rattle.while_lang.specs.declared.outcome.Outcome.TheVariants.{Done, Stuck, More}
use Rattle.while_lang.proofs.Outcomes.{one_outcome}
use Rattle.while_lang.specs.Files.{SideTree, GoalTree, equal, below, triple, term_side, prog_side}
use Rattle.store_trials.specs.RunEnds.{EndParts}
use Rattle.store_trials.specs.Trials.{SideEndsAs, AreEnds, ShowFalse, cuts, NeverShown, IsFirstFalse, NoneShown, IsConcreteSide, IsConcreteGoal}

module _ (w : Width) (n : ℕ) where
  -- the end of a run of a copy of the store
  module _ (p : ProgTree) (s : Store) (o : Outcome) (t copied : Store) (same : copied ≡ s) where
    pub run_ended : ((u : Store) → ((o ≡ Done) × (t ≡ u)) ↔ HasOutcome w p copied n Done u)
        → ((u : Store) → ((o ≡ Stuck) × (t ≡ u)) ↔ HasOutcome w p copied n Stuck u)
        → ((u : Store) → ((o ≡ More) × (t ≡ u)) ↔ HasOutcome w p copied n More u)
        → HasOutcome w p s n o t
    run_ended done stuck more = subst (λ (r : Store). HasOutcome w p r n o t) same (by o refl)
      where
        by : (r : Outcome) → o ≡ r → HasOutcome w p copied n o t
        by Done e = subst (λ (q : Outcome). HasOutcome w p copied n q t) (sym e) ((done t).0 (e, refl))
        by Stuck e = subst (λ (q : Outcome). HasOutcome w p copied n q t) (sym e) ((stuck t).0 (e, refl))
        by More e = subst (λ (q : Outcome). HasOutcome w p copied n q t) (sym e) ((more t).0 (e, refl))

  -- a program has one end
  prog_same : (p : ProgTree) (s : Store) → is_concrete p ≡ true → (d e : EndParts) → HasOutcome w p s n d.outcome d.store → HasOutcome w p s n e.outcome e.store → d ≡ e
  prog_same p s concrete d e x y =
      let one : HasOneOutcome w p s n = one_outcome w p s n concrete in
      let outcome = (one.only d.outcome d.store x).0 ∙ sym (one.only e.outcome e.store y).0 in
      let store = (one.only d.outcome d.store x).1 ∙ sym (one.only e.outcome e.store y).1 in
      λ i. record { outcome = outcome i; store = store i }

  side_same : (l : SideTree) (s : Store) → IsConcreteSide l → (d e : EndParts) → SideEndsAs w n l s d → SideEndsAs w n l s e → d ≡ e
  side_same (prog_side p) s concrete d e x y = prog_same p s concrete d e x y
  side_same (term_side t) s concrete d e x y = absurd concrete

  -- so has a goal
  pub ends_same : (g : GoalTree) (s : Store) → IsConcreteGoal g → (ds es : List EndParts) → AreEnds w n g s ds → AreEnds w n g s es → ds ≡ es
  ends_same (equal l r) s concrete (d ∷ d2 ∷ []) (e ∷ e2 ∷ []) x y =
      λ i. side_same l s concrete.0 d e x.0 y.0 i ∷ side_same r s concrete.1 d2 e2 x.1 y.1 i ∷ []
  ends_same (equal l r) s concrete [] es x y = absurd x
  ends_same (equal l r) s concrete (d ∷ []) es x y = absurd x
  ends_same (equal l r) s concrete (d ∷ d2 ∷ d3 ∷ ds) es x y = absurd x
  ends_same (equal l r) s concrete (d ∷ d2 ∷ []) [] x y = absurd y
  ends_same (equal l r) s concrete (d ∷ d2 ∷ []) (e ∷ []) x y = absurd y
  ends_same (equal l r) s concrete (d ∷ d2 ∷ []) (e ∷ e2 ∷ e3 ∷ es) x y = absurd y
  ends_same (below l r) s concrete ds es x y = absurd concrete
  ends_same (triple b l c) s concrete (d ∷ []) (e ∷ []) x y = λ i. side_same l s concrete d e x y i ∷ []
  ends_same (triple b l c) s concrete [] es x y = absurd x
  ends_same (triple b l c) s concrete (d ∷ d2 ∷ ds) es x y = absurd x
  ends_same (triple b l c) s concrete (d ∷ []) [] x y = absurd y
  ends_same (triple b l c) s concrete (d ∷ []) (e ∷ e2 ∷ es) x y = absurd y

  module _ (g : GoalTree) (concrete : IsConcreteGoal g) where
    -- if the ends do not show that the goal is false, then no ends from the store do
    never_shown : (s : Store) (ds : List EndParts) → AreEnds w n g s ds → (ShowFalse w g s ds → ⊥) → (es : List EndParts) → AreEnds w n g s es → ShowFalse w g s es → ⊥
    never_shown s ds are none es too show = none (subst (ShowFalse w g s) (ends_same g s concrete es ds too are) show)

    none_at : (stores : List Store) (c i : ℕ) → NoneShown w n g stores c → NeverShown w n g stores i
    none_at [] c i none s es at are show = absurd (none-some s at)
    none_at (t ∷ stores) c zero (ds, d, first, not, rest, sum) s es at are show =
        let same : t ≡ s = same_Some t s at in
        never_shown s ds (subst (λ (u : Store). AreEnds w n g u ds) same first) (subst (λ (u : Store). ShowFalse w g u ds → ⊥) same not) es are show
    none_at (t ∷ stores) c (suc i) (ds, d, first, not, rest, sum) s es at are show = none_at stores d i rest s es at are show

    -- a trial does not find a store and none
    pub first_or_none : (stores : List Store) (s : Store) (ends : List EndParts) (c : ℕ) → IsFirstFalse w n g stores s ends → NoneShown w n g stores c → ⊥
    first_or_none stores s ends c first none = none_at stores c first.position none s ends first.listed first.are_ends first.show_false

    -- ---- the next store of a list

    module _ (stores : List Store) (i : ℕ) (s : Store) (ends : List EndParts) (lt : i < length stores) (is : s ≡ get_or stores i s) (are : AreEnds w n g s ends) where
      here : slice_get stores i ≡ Some s
      here = slice_get_read stores (length stores) i s refl lt is

      -- its ends show nothing
      pub none_more : (ShowFalse w g s ends → ⊥) → ((j : ℕ) → j < i → NeverShown w n g stores j) → (j : ℕ) → j < i + 1 → NeverShown w n g stores j
      none_more not before = below_more (NeverShown w n g stores) i before never
        where
          never : NeverShown w n g stores i
          never t es at too show =
              let same : s ≡ t = same_Some s t (sym here ∙ at) in
              never_shown t ends (subst (λ (u : Store). AreEnds w n g u ends) same are) (subst (λ (u : Store). ShowFalse w g u ends → ⊥) same not) es too show

      pub counted_more : (ShowFalse w g s ends → ⊥) → (cut more : ℕ) → more ≡ cuts ends
          → ((c : ℕ) → NoneShown w n g (drop i stores) c → NoneShown w n g stores (cut + c))
          → (c : ℕ) → NoneShown w n g (drop (i + 1) stores) c → NoneShown w n g stores (cut + more + c)
      counted_more not cut more counts so_far c rest =
          let next : drop i stores ≡ s ∷ drop (i + 1) stores = drop_more stores i s lt ∙ ap (λ (t : Store). t ∷ drop (i + 1) stores) (sym is) in
          let whole : NoneShown w n g (s ∷ drop (i + 1) stores) (more + c) = (ends, c, are, not, rest, ap (λ (k : ℕ). k + c) counts) in
          let sum : cut + (more + c) ≡ cut + more + c = omega arith in
          subst (NoneShown w n g stores) sum (so_far (more + c) (subst (λ (l : List Store). NoneShown w n g l (more + c)) (sym next) whole))

    -- no store is left
    pub none_found : (stores : List Store) (i cut : ℕ) → length stores ≤ i → ((c : ℕ) → NoneShown w n g (drop i stores) c → NoneShown w n g stores (cut + c)) → NoneShown w n g stores cut
    none_found stores i cut past so_far =
        let nothing : NoneShown w n g [] 0 = refl in
        let sum : cut + 0 ≡ cut = omega arith in
        subst (NoneShown w n g stores) sum (so_far 0 (subst (λ (l : List Store). NoneShown w n g l 0) (sym (drop_all i stores past)) nothing))
