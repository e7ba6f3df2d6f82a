-- A list without its last member.
use Rattle.std.proofs.Common.{◌≡◌, ℕ, ◌+◌, ◌-◌, List, [], ◌∷◌, ◌++◌, length, take, sym, ap, ◌∙◌, arith, length-append, take_all}
use Rattle.std.proofs.lemmas.List.{nil_from_length, take-append-le}

before_last_at : {X : Type 0} (before : List X) (x : X) (n : ℕ) → n ≡ length before → take n (before ++ x ∷ []) ≡ before
before_last_at before x n e = take-append-le n before (x ∷ []) (omega (arith, e)) ∙ take_all n before (omega (arith, e))

pub before_last : {X : Type 0} (xs before : List X) (x : X) → xs ≡ before ++ x ∷ [] → take (length xs - 1) xs ≡ before
before_last xs before x e =
    let long : length xs ≡ length before + 1 = ap length e ∙ length-append before (x ∷ []) in
    ap (take (length xs - 1)) e ∙ before_last_at before x (length xs - 1) (omega (arith, long))

pub nothing_left : {X : Type 0} (xs : List X) → length xs ≡ 0 → xs ≡ []
nothing_left xs e = nil_from_length xs e

pub ruleset last = (before_last, nothing_left)

-- ---- loops over the members from the last to the first, where `F made (view rest)` stays `whole`

pub kept : {X Y M R : Type 0} (F : M → List Y → R) (view : List X → List Y) (made now : M) (rest before : List X) (x : X) (whole : R) → rest ≡ before ++ x ∷ [] → F made (view (before ++ x ∷ [])) ≡ F now (view before) → F made (view rest) ≡ whole → F now (view (take (length rest - 1) rest)) ≡ whole
kept F view made now rest before x whole is step invariant =
    ap (λ l. F now (view l)) (before_last rest before x is) ∙ sym step ∙ sym (ap (λ l. F made (view l)) is) ∙ invariant

-- a member at which the loop is left
pub left_at : {X Y M R : Type 0} (F : M → List Y → R) (view : List X → List Y) (made : M) (rest before : List X) (x : X) (whole r : R) → rest ≡ before ++ x ∷ [] → F made (view (before ++ x ∷ [])) ≡ r → F made (view rest) ≡ whole → whole ≡ r
left_at F view made rest before x whole r is step invariant = sym invariant ∙ ap (λ l. F made (view l)) is ∙ step

pub ended : {X Y M R : Type 0} (F : M → List Y → R) (view : List X → List Y) (made : M) (rest : List X) (whole : R) → length rest ≡ 0 → view [] ≡ [] → F made (view rest) ≡ whole → whole ≡ F made []
ended F view made rest whole none empty invariant = sym invariant ∙ ap (λ l. F made (view l)) (nothing_left rest none) ∙ ap (F made) empty
