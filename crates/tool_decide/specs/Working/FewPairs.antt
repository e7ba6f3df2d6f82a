-- A certificate that `decide` prints has few pairs.
use Rattle.std.proofs.Common.{◌≡◌, ◌≤◌, ◌+◌, ◌*◌, ◌^◌, ℕ, List, [], ◌∷◌, ◌++◌, length, Bool, true, false, cond, inl, inr, refl, sym, ap, ◌∙◌, subst, arith}
use Rattle.std.specs.List.{filter}
use Rattle.std.proofs.lemmas.List.{length-map}
use Rattle.std.proofs.Math.Nat.{mul-le-mul, le_trans}
use Rattle.std.proofs.Math.Pow.{pow_mono}
use mathlib.Core.Path.{ap₂}
use Rattle.kat_model.specs.Trees.{Term, zero as term_zero, sum, acts}
use Rattle.kat_model.specs.Balanced.{sum_of}
use Rattle.kat_model.specs.Closed.{Closed, closed_under, closed}
use Rattle.kat_model.specs.Guarded.{IsGuarded}
use Rattle.kat_model.specs.Degrees.{is_long, long_hyps, closed_long}
use Rattle.kat_model.specs.Problems.{ProblemParts}
use Rattle.kat_model.proofs.BalancedTrees.{balanced_holds}
use Rattle.certificate.specs.declared.nodes.Style.TheVariants.{UpTo, Under}
use Rattle.certificate.specs.Certs.{CertParts, number_pairs}
use Rattle.certificate.specs.Accepted.{set_pairs}
use Rattle.certificate.specs.Decisions.{pair_limit, IsAnswerCert}
use Rattle.bisim_worklist.proofs.AnswerCerts.{answer_few}
use Rattle.tool_decide.specs.SmallCerts.{IsSmallCert}

-- ---- fewer hypotheses give closed sides with fewer actions

abbrev all_acts : List Term → ℕ
all_acts [] = 0
all_acts (e ∷ es) = acts e + all_acts es

all_acts-append : (es fs : List Term) → all_acts (es ++ fs) ≡ all_acts es + all_acts fs
all_acts-append [] fs = omega arith
all_acts-append (e ∷ es) fs = omega (arith, all_acts-append es fs)

acts-sum_of : (es : List Term) → acts (sum_of es) ≡ all_acts es
acts-sum_of es =
    balanced_holds term_zero sum
    (λ fs e. acts e ≡ all_acts fs)
    refl
    (λ e. omega arith)
    (λ fs gs a b p q. ap₂ (λ m n. m + n) p q ∙ sym (all_acts-append fs gs))
    es

fewer_acts : (p : Term → Bool) (es : List Term) → all_acts (filter p es) ≤ all_acts es
fewer_acts p [] = omega arith
fewer_acts p (e ∷ es) = go (p e) (fewer_acts p es)
  where
    go : (c : Bool) → all_acts (filter p es) ≤ all_acts es → all_acts (cond c (e ∷ filter p es) (filter p es)) ≤ acts e + all_acts es
    go true few = omega (arith, few)
    go false few = omega (arith, few)

-- the sides of the first have no more actions than those of the second
record HasFewer (a b : Closed) : Type 0 where
  left : acts a.left ≤ acts b.left
  right : acts a.right ≤ acts b.right

module _ (actions : ℕ) (left right : Term) where
  fewer_closed : (hs gs : List Term) → (gs ≡ [] → hs ≡ []) → all_acts hs ≤ all_acts gs → HasFewer (closed_under actions hs left right) (closed_under actions gs left right)
  fewer_closed [] [] none few = record { left = omega arith; right = omega arith }
  fewer_closed [] (g ∷ gs) none few = record { left = omega arith; right = omega arith }
  fewer_closed (h ∷ hs) [] none few = let no : h ∷ hs ≡ [] = none refl in absurd cc
  fewer_closed (h ∷ hs) (g ∷ gs) none few =
      let a = acts-sum_of (h ∷ hs) in
      let b = acts-sum_of (g ∷ gs) in
      record { left = omega (arith, few, a, b); right = omega (arith, few, a, b) }

long_fewer : (q : ProblemParts) → HasFewer (closed_long q) (closed q)
long_fewer q = fewer_closed q.actions q.left q.right (long_hyps q) q.hyps (λ none. ap (filter is_long) none) (fewer_acts is_long q.hyps)

fewer_pairs : (a b c d : ℕ) → a ≤ c → b ≤ d → 2 ^ (a + 1) * 2 ^ (b + 1) ≤ 2 ^ (c + 1) * 2 ^ (d + 1)
fewer_pairs a b c d left right = mul-le-mul (pow_mono (omega (arith, left))) (pow_mono (omega (arith, right)))

-- ---- the certificate

module _ (q : ProblemParts) (c : CertParts) where
  count : length (set_pairs c) ≡ length c.pairs
  count = length-map (number_pairs c) _ ∙ length-map c.pairs _

  bounded : IsAnswerCert q c → length (set_pairs c) ≤ pair_limit q
  bounded (inl u) = u.concise.bounded
  bounded (inr t) =
      let few = long_fewer q in
      le_trans t.concise.bounded (fewer_pairs (acts (closed_long q).left) (acts (closed_long q).right) (acts (closed q).left) (acts (closed q).right) few.left few.right)

  pub answer_small : IsAnswerCert q c → IsSmallCert q c
  answer_small a = record {
    pairs = subst (λ n. n ≤ pair_limit q) count (bounded a);
    guarded = λ none left right. subst (λ n. n ≤ (acts q.left + 2) * (acts q.right + 2)) count (answer_few q c a none left right);
    guarded_under = λ under none left right. subst (λ n. n ≤ (acts q.left + 2) * (acts q.right + 2)) count (guarded a under none left right);
  }
    where
      guarded : IsAnswerCert q c → c.style ≡ Under → long_hyps q ≡ [] → IsGuarded q.left → IsGuarded q.right → length (set_pairs c) ≤ (acts q.left + 2) * (acts q.right + 2)
      guarded (inl u) under = let up : c.style ≡ UpTo = u.concise.up_to in absurd cc
      guarded (inr t) under = t.concise.guarded
