-- The least target of an unmet condition: of one condition, and of concatenated lists.
use Rattle.std.proofs.Common.{◌≡◌, ℕ, ◌+◌, ◌<◌, ◌≤◌, ◌↔◌, inl, ◌⊎◌, ⊎_elim, List, [], ◌∷◌, ◌++◌, map, length, take, get_or, min, Bool, true, false, cond, Option, Some, None, refl, sym, ap, ◌∙◌, subst, arith}
use Rattle.std.proofs.lemmas.List.{map_more}
use Rattle.std.specs.Bool.{IsTrue}
use Rattle.kat_model.specs.Members.{Has}
use Rattle.kat_model.proofs.Lists.{has_append, has_left, has_right}
use Rattle.kat_model.specs.Problems.{ProblemParts}
use Rattle.kat_model.specs.Steps.{Atom}
use Rattle.outline_rules.specs.declared.checks.Check.{Check}
use Rattle.outline_rules.specs.Working.Checks.{condition_of}
use Rattle.outline_rules.specs.Follows.{Condition, target, IsMet}
use Rattle.outline_rules.specs.Reasons.{IsLeastUnmet}
use Rattle.outline_rules.specs.Working.Sets.{ShowsLeastUnmet, lesser_of}

module _ (q : ProblemParts) (note : ℕ → Atom → Bool) where
  pub of_one : (c : Condition) (met : Bool) → IsTrue met ↔ IsMet q note c → ShowsLeastUnmet q note (c ∷ []) (cond met None (Some (target c)))
  of_one c true is = λ d h. ⊎_elim (λ e. subst (IsMet q note) e (is.0 refl)) absurd h
  of_one c false is =
      record {
        unmet = c;
        has = inl refl;
        fails = λ m. let clash = is.1 m in cc;
        is_target = refl;
        least = λ d h lt. ⊎_elim (λ e. absurd (same d e lt)) absurd h;
      }
    where
      same : (d : Condition) → c ≡ d → target d < target c → ⊥
      same d e lt = let own : target c < target c = subst (λ x. target x < target c) (sym e) lt in omega (arith, own)

  -- an unmet condition of one of two lists, if its target is the least of both lists
  among : (cs ds : List Condition) (k m : ℕ) → IsLeastUnmet q note cs k → m ≡ k → ((c : Condition) → Has ds c → target c < m → IsMet q note c) → IsLeastUnmet q note (cs ++ ds) m
  among cs ds k m u e others =
      record {
        unmet = u.unmet;
        has = has_left cs ds u.unmet u.has;
        fails = u.fails;
        is_target = subst (λ n. target u.unmet ≡ n) (sym e) u.is_target;
        least = λ c h lt. ⊎_elim (λ l. u.least c l (subst (λ n. target c < n) e lt)) (λ r. others c r lt) (has_append cs ds c h);
      }

  among_right : (cs ds : List Condition) (k m : ℕ) → IsLeastUnmet q note ds k → m ≡ k → ((c : Condition) → Has cs c → target c < m → IsMet q note c) → IsLeastUnmet q note (cs ++ ds) m
  among_right cs ds k m u e others =
      record {
        unmet = u.unmet;
        has = has_right cs ds u.unmet u.has;
        fails = u.fails;
        is_target = subst (λ n. target u.unmet ≡ n) (sym e) u.is_target;
        least = λ c h lt. ⊎_elim (λ l. others c l lt) (λ r. u.least c r (subst (λ n. target c < n) e lt)) (has_append cs ds c h);
      }

  two_orders : (k l : ℕ) → ((min k l ≡ k) × (k ≤ l)) ⊎ ((min k l ≡ l) × (l ≤ k))
  two_orders k l = grind arith

  pub joined : (cs ds : List Condition) (o p : Option ℕ) → ShowsLeastUnmet q note cs o → ShowsLeastUnmet q note ds p → ShowsLeastUnmet q note (cs ++ ds) (lesser_of o p)
  joined cs ds None None a b = λ c h. ⊎_elim (a c) (b c) (has_append cs ds c h)
  joined cs ds None (Some l) a b = among_right cs ds l l b refl (λ c h lt. a c h)
  joined cs ds (Some k) None a b = among cs ds k k a refl (λ c h lt. b c h)
  joined cs ds (Some k) (Some l) a b =
      ⊎_elim
      (λ e. among cs ds k (min k l) a e.0 (λ c h lt. b.least c h (omega (arith, lt, e.0, e.1))))
      (λ e. among_right cs ds l (min k l) b e.0 (λ c h lt. a.least c h (omega (arith, lt, e.0, e.1))))
      (two_orders k l)

  -- adding a check to a list
  pub least_next : (checks : List Check) (i : ℕ) (check : Check) (met : Bool) (least one next : Option ℕ) (t : ℕ) → i < length checks → check ≡ get_or checks i check → t ≡ target (condition_of check) → one ≡ cond met None (Some t) → next ≡ lesser_of least one
      → ShowsLeastUnmet q note (map condition_of (take i checks)) least → IsTrue met ↔ IsMet q note (condition_of check) → ShowsLeastUnmet q note (map condition_of (take (i + 1) checks)) next
  least_next checks i check met least one next t lt is own chosen joins so_far gives =
      let more : map condition_of (take (i + 1) checks) ≡ map condition_of (take i checks) ++ condition_of check ∷ [] = map_more condition_of checks i check lt ∙ ap (λ (c : Check). map condition_of (take i checks) ++ condition_of c ∷ []) (sym is) in
      let last : ShowsLeastUnmet q note (condition_of check ∷ []) one = subst (ShowsLeastUnmet q note (condition_of check ∷ [])) (sym (chosen ∙ ap (λ k. cond met None (Some k)) own)) (of_one (condition_of check) met gives) in
      subst (λ (l : List Condition). ShowsLeastUnmet q note l next) (sym more)
      (subst (ShowsLeastUnmet q note (map condition_of (take i checks) ++ condition_of check ∷ [])) (sym joins)
      (joined (map condition_of (take i checks)) (condition_of check ∷ []) least one so_far last))

  -- the conditions of a task
  pub least_of_all : (start end : Condition) (cs : List Condition) (first last : Bool) (within one other later all : Option ℕ) (t : ℕ) → IsTrue first ↔ IsMet q note start → IsTrue last ↔ IsMet q note end → ShowsLeastUnmet q note cs within
      → t ≡ target end → other ≡ cond last None (Some t) → later ≡ lesser_of within other → one ≡ cond first None (Some (target start)) → all ≡ lesser_of one later → ShowsLeastUnmet q note (start ∷ (cs ++ end ∷ [])) all
  least_of_all start end cs first last within one other later all t is_first is_last gives own chosen joins chosen_first joins_all =
      let end_given : ShowsLeastUnmet q note (end ∷ []) other = subst (ShowsLeastUnmet q note (end ∷ [])) (sym (chosen ∙ ap (λ k. cond last None (Some k)) own)) (of_one end last is_last) in
      let rest_given : ShowsLeastUnmet q note (cs ++ end ∷ []) later = subst (ShowsLeastUnmet q note (cs ++ end ∷ [])) (sym joins) (joined cs (end ∷ []) within other gives end_given) in
      let start_given : ShowsLeastUnmet q note (start ∷ []) one = subst (ShowsLeastUnmet q note (start ∷ [])) (sym chosen_first) (of_one start first is_first) in
      subst (ShowsLeastUnmet q note (start ∷ (cs ++ end ∷ []))) (sym joins_all) (joined (start ∷ []) (cs ++ end ∷ []) one later start_given rest_given)
