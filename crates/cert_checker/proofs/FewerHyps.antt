-- A certificate under tests that is accepted for a problem with fewer short hypotheses is accepted. The loop that finds
-- such a problem.
use Rattle.std.proofs.Common.{◌≡◌, ◌<◌, ◌≤◌, ℕ, suc, Result, Ok, Err, ⊎_elim, List, [], ◌∷◌, ◌++◌, map, drop, length, get_or, Bool, true, false, cond, Option, Some, None, is_some, not, refl, sym, ap, ◌∙◌, subst, append_assoc, append-nil, drop-cons}
use Rattle.std.specs.List.{filter}
use Rattle.std.specs.Option.{MatchOption, IfSome}
use Rattle.std.specs.Result.{IfOk, result_ok}
use Rattle.std.proofs.lemmas.Bool.{true≢false}
use Rattle.std.proofs.lemmas.List.{map-append, drop_all}
use Rattle.std.proofs.lemmas.List.Elements.{filter-append}
use Rattle.std.proofs.lemmas.Option.{slice_get_read}
use Rattle.kat_model.specs.declared.tree.Kat.{Kat}
use Rattle.kat_model.specs.Trees.{Term, kat_tree}
use Rattle.kat_model.specs.Members.{Has, IsSubset}
use Rattle.kat_model.specs.Problems.{ProblemParts, problem_parts}
use Rattle.kat_model.specs.Degrees.{is_short, is_long, short_hyps, long_hyps, with_hyps}
use Rattle.kat_model.specs.TestedPairs.{AreAcceptedUnder}
use Rattle.kat_model.proofs.Filters.{has_filter, filter_has}
use Rattle.kat_model.proofs.Lists.{has_pushed, map_has}
use Rattle.kat_model.proofs.Places.{has_at}
use Rattle.goal_forms.proofs.FewerHypotheses.{fewer_accepted}
use Rattle.certificate.specs.declared.nodes.Style.TheVariants.{Under}
use Rattle.certificate.specs.Certs.{CertParts}
use Rattle.certificate.specs.Accepted.{ShowsSame, tested_pairs, IsAccepted}
use Rattle.cert_checker.specs.declared.answer.Reason.{Reason}
use Rattle.cert_checker.specs.Answers.{FailsFirstBy}
use Rattle.cert_checker.specs.Working.Relevant.{HasFewerHyps}

module _ (q p : ProblemParts) (f : HasFewerHyps q p) (c : CertParts) (under : c.style ≡ Under) where
  short_fewer : IsSubset (short_hyps p) (short_hyps q)
  short_fewer h k =
      let own = has_filter is_short p.hyps h k in
      filter_has is_short q.hyps h (f.fewer h (subst (λ (z : ProblemParts). Has z.hyps h) f.is own.0)) own.1

  pub accepted_with_all : IsAccepted p c → IsAccepted q c
  accepted_with_all a = record {
    tests = λ k h. subst (λ (z : ProblemParts). k < z.tests) f.is (a.tests k h);
    actions = λ k h. subst (λ (z : ProblemParts). k < z.actions) f.is (a.actions k h);
    pairs = subst (λ style. ShowsSame style q c) (sym under) (fewer_accepted (short_hyps p) (short_hyps q) short_fewer (with_hyps q (long_hyps q)) (tested_pairs c) pairs_long);
  }
    where
      -- the problems with only the long hypotheses are one
      one : with_hyps p (long_hyps p) ≡ with_hyps q (long_hyps q)
      one = ap (λ (z : ProblemParts). with_hyps z (long_hyps p)) f.is ∙ ap (with_hyps q) f.longs

      pairs_long : AreAcceptedUnder (short_hyps p) (with_hyps q (long_hyps q)) (tested_pairs c)
      pairs_long = subst (λ z. AreAcceptedUnder (short_hyps p) z (tested_pairs c)) one (subst (λ style. ShowsSame style p c) under a.pairs)

-- no reason against the certificate with fewer hypotheses
pub accepted_by_fewer : (q p : ProblemParts) (c : CertParts) (o : Option Reason) (none : Bool) → HasFewerHyps q p → c.style ≡ Under → MatchOption o (IsAccepted p c) (λ r. FailsFirstBy p c r) → is_some o ≡ not none → none ≡ true → IsAccepted q c
accepted_by_fewer q p c None none f under accepted is t = accepted_with_all q p f c under accepted
accepted_by_fewer q p c (Some r) none f under failed is t = absurd (true≢false (is ∙ ap not t))

-- the hypotheses that are kept so far: all long ones so far, and no others than those of the problem
pub record AreKept (kept rest all : List Term) : Type 0 where
  pub longs : filter is_long kept ++ filter is_long rest ≡ filter is_long all
  pub within : IsSubset kept all

module _ (kept hyps : List Kat) (i : ℕ) (x : Kat) (before : AreKept (map kat_tree kept) (map kat_tree (drop i hyps)) (map kat_tree hyps)) (low : i < length hyps) (at : x ≡ get_or hyps i x) where
  split : filter is_long (map kat_tree (drop i hyps)) ≡ cond (is_long (kat_tree x)) (kat_tree x ∷ filter is_long (map kat_tree (drop (suc i) hyps))) (filter is_long (map kat_tree (drop (suc i) hyps)))
  split =
      ap (λ l. filter is_long (map kat_tree l)) (drop-cons hyps i x low)
      ∙ ap (λ y. filter is_long (kat_tree y ∷ map kat_tree (drop (suc i) hyps))) (sym at)

  pub kept_more : (y : Kat) → kat_tree y ≡ kat_tree x → AreKept (map kat_tree (kept ++ y ∷ [])) (map kat_tree (drop (suc i) hyps)) (map kat_tree hyps)
  kept_more y same = record { longs = longs; within = within }
    where
      pushed : map kat_tree (kept ++ y ∷ []) ≡ map kat_tree kept ++ kat_tree x ∷ []
      pushed = map-append kat_tree kept (y ∷ []) ∙ ap (λ z. map kat_tree kept ++ z ∷ []) same

      joined : (b : Bool) (l : List Term) → cond b (kat_tree x ∷ []) [] ++ l ≡ cond b (kat_tree x ∷ l) l
      joined true l = refl
      joined false l = refl

      longs : filter is_long (map kat_tree (kept ++ y ∷ [])) ++ filter is_long (map kat_tree (drop (suc i) hyps)) ≡ filter is_long (map kat_tree hyps)
      longs =
          ap (λ l. filter is_long l ++ filter is_long (map kat_tree (drop (suc i) hyps))) pushed
          ∙ ap (λ l. l ++ filter is_long (map kat_tree (drop (suc i) hyps))) (filter-append is_long (map kat_tree kept) (kat_tree x ∷ []))
          ∙ append_assoc (filter is_long (map kat_tree kept)) (filter is_long (kat_tree x ∷ [])) (filter is_long (map kat_tree (drop (suc i) hyps)))
          ∙ ap (λ l. filter is_long (map kat_tree kept) ++ l) (joined (is_long (kat_tree x)) (filter is_long (map kat_tree (drop (suc i) hyps))) ∙ sym split)
          ∙ before.longs

      within : IsSubset (map kat_tree (kept ++ y ∷ [])) (map kat_tree hyps)
      within h m =
          ⊎_elim
          (λ old. before.within h old)
          (λ new. subst (Has (map kat_tree hyps)) new (map_has kat_tree hyps x (has_at hyps i x (slice_get_read hyps (length hyps) i x refl low at))))
          (has_pushed (map kat_tree kept) (kat_tree x) h (subst (λ l. Has l h) pushed m))

  pub kept_same : is_long (kat_tree x) ≡ false → AreKept (map kat_tree kept) (map kat_tree (drop (suc i) hyps)) (map kat_tree hyps)
  kept_same short = record {
    longs = ap (λ l. filter is_long (map kat_tree kept) ++ l) (sym (split ∙ ap (λ b. cond b (kat_tree x ∷ filter is_long (map kat_tree (drop (suc i) hyps))) (filter is_long (map kat_tree (drop (suc i) hyps)))) short)) ∙ before.longs;
    within = before.within;
  }

-- when the loop ends, all long hypotheses are kept, and no others are
pub kept_at_end : (all : List Term) (kept hyps : List Kat) (i : ℕ) → AreKept (map kat_tree kept) (map kat_tree (drop i hyps)) (map kat_tree hyps) → length hyps ≤ i → map kat_tree hyps ≡ all
    → (filter is_long (map kat_tree kept) ≡ filter is_long all) × IsSubset (map kat_tree kept) all
kept_at_end all kept hyps i keeps over same = (done ∙ ap (filter is_long) same, subst (IsSubset (map kat_tree kept)) same keeps.within)
  where
    done : filter is_long (map kat_tree kept) ≡ filter is_long (map kat_tree hyps)
    done =
        sym (append-nil (filter is_long (map kat_tree kept)))
        ∙ ap (λ l. filter is_long (map kat_tree kept) ++ filter is_long (map kat_tree l)) (sym (drop_all i hyps over))
        ∙ keeps.longs

-- the problem with these hypotheses has fewer
pub fewer_made : (q p : ProblemParts) (kept : List Kat) (tests actions : ℕ) (left right : Kat) → filter is_long (map kat_tree kept) ≡ filter is_long q.hyps → IsSubset (map kat_tree kept) q.hyps
    → tests ≡ q.tests → actions ≡ q.actions → kat_tree left ≡ q.left → kat_tree right ≡ q.right → p ≡ problem_parts tests actions kept left right → HasFewerHyps q p
fewer_made q p kept tests actions left right longs within t a l r made = record {
  hyps = map kat_tree kept;
  is = made ∙ (λ j. record { tests = t j; actions = a j; hyps = map kat_tree kept; left = l j; right = r j });
  longs = ap (λ (z : ProblemParts). filter is_long z.hyps) made ∙ longs;
  fewer = within;
}

-- what holds of a result holds of the value that it gives
pub some_of_ok : {P E : Type 0} (r : Result P E) (A B : P → Type 0) → ((p : P) → A p → B p) → IfOk r A → IfSome (result_ok r) B
some_of_ok (Ok p) A B f h = f p h
some_of_ok (Err e) A B f h = tt
