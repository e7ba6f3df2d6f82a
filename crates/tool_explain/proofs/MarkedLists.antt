-- The members of a list at the marked places are collected one by one.
use Rattle.std.proofs.Common.{◌≡◌, List, [], ◌∷◌, ◌++◌, length, Bool, true, false, refl, sym, ap, ◌∙◌, append_assoc, replicate}
use Rattle.std.proofs.lemmas.List.{append-nil}
use Rattle.kat_model.specs.Problems.{ProblemParts}
use Rattle.tool_explain.specs.Used.{marked, with_marked}

module _ {X : Type 0} (out whole : List X) where
  pub member_kept : (mark : Bool) (x : X) (marks all_marks : List Bool) (xs all : List X) → all_marks ≡ mark ∷ marks → all ≡ x ∷ xs → mark ≡ true
      → out ++ marked all_marks all ≡ whole → (out ++ x ∷ []) ++ marked marks xs ≡ whole
  member_kept mark x marks all_marks xs all first second is so_far =
      append_assoc out (x ∷ []) (marked marks xs) ∙ (rw (first, second, is) at so_far)

  pub member_left : (mark : Bool) (x : X) (marks all_marks : List Bool) (xs all : List X) → all_marks ≡ mark ∷ marks → all ≡ x ∷ xs → mark ≡ false
      → out ++ marked all_marks all ≡ whole → out ++ marked marks xs ≡ whole
  member_left mark x marks all_marks xs all first second is so_far = rw (first, second, is) at so_far

  pub no_mark_left : (marks : List Bool) (xs : List X) → marks ≡ [] → out ++ marked marks xs ≡ whole → out ≡ whole
  no_mark_left marks xs none so_far = sym (append-nil out) ∙ (rw none at so_far)

  nothing_marked : (marks : List Bool) → marked {X = X} marks [] ≡ []
  nothing_marked [] = refl
  nothing_marked (mark ∷ marks) = refl

  pub no_member_left : (marks : List Bool) (xs : List X) → xs ≡ [] → out ++ marked marks xs ≡ whole → out ≡ whole
  no_member_left marks xs none so_far =
      sym (append-nil out) ∙ ap (λ l. out ++ l) (sym (nothing_marked marks)) ∙ ap (λ l. out ++ marked marks l) (sym none) ∙ so_far

-- all members of a list are at marked places if all places are marked
pub all_marked : {X : Type 0} (xs : List X) → marked (replicate (length xs) true) xs ≡ xs
all_marked [] = refl
all_marked (x ∷ xs) = ap (λ l. x ∷ l) (all_marked xs)

pub with_all : (q : ProblemParts) (marks : List Bool) → marks ≡ replicate (length q.hyps) true → with_marked q marks ≡ q
with_all q marks all =
    ap (λ hyps. record { tests = q.tests; actions = q.actions; hyps = hyps; left = q.left; right = q.right })
    (ap (λ ms. marked ms q.hyps) all ∙ all_marked q.hyps)
