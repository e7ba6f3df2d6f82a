-- Texts split at a byte: into lines at line feeds, and into words at blanks.
use Rattle.std.proofs.Common.{◌≡◌, ℕ, suc, ◌+◌, ◌<◌, ◌≤◌, List, [], ◌∷◌, ◌++◌, length, take, drop, Bool, true, false, ◌||◌, ◌==◌, None, Some, refl, sym, ap, ◌∙◌, subst, position, cond, arith, eq-eqb, ltb-true, nat_lt, not, length-drop, length-take-le}
use Rattle.std.specs.List.{slice_split, onto_first, list_any, position_or_len, prefix_len}
use Rattle.std.proofs.lemmas.Bool.{or_parts, ltb-false}
use Rattle.std.proofs.lemmas.List.{take_all}
use Rattle.std.proofs.lemmas.List.Splits.{slice_split_first, slice_split-cons_yes, slice_split-cons_no}
use Rattle.line_format.specs.Lines.{parts_of}
use Rattle.line_format.specs.Readings.{IsCutLine}

-- the byte does not occur in the list
abbrev pub LacksByte : ℕ → List ℕ → Type 0
LacksByte mark bytes = list_any (λ b. b == mark) bytes ≡ false

pub same_byte : (mark : ℕ) → (mark == mark) ≡ true
same_byte mark = eq-eqb mark mark refl

module _ {X : Type 0} (p : X → Bool) where
  -- a list in which no element passes is one part
  pub split_none : (xs : List X) → list_any p xs ≡ false → slice_split p xs ≡ xs ∷ []
  split_none [] lacks = refl
  split_none (x ∷ xs) lacks =
      let both = or_parts (p x) (list_any p xs) lacks in
      slice_split-cons_no p x xs both.0 ∙ ap (onto_first x) (split_none xs both.1)

  -- the first part ends before the first element that passes
  pub split_first : (xs : List X) (y : X) (ys : List X) → list_any p xs ≡ false → p y ≡ true → slice_split p (xs ++ y ∷ ys) ≡ xs ∷ slice_split p ys
  split_first [] y ys lacks passes = slice_split-cons_yes p y ys passes
  split_first (x ∷ xs) y ys lacks passes =
      let both = or_parts (p x) (list_any p xs) lacks in
      slice_split-cons_no p x (xs ++ y ∷ ys) both.0 ∙ ap (onto_first x) (split_first xs y ys both.1 passes)

-- the same for a byte
pub split_lacking : (mark : ℕ) (xs : List ℕ) → LacksByte mark xs → slice_split (λ b. b == mark) xs ≡ xs ∷ []
split_lacking mark = split_none (λ b. b == mark)

pub split_at : (mark : ℕ) (xs ys : List ℕ) → LacksByte mark xs → slice_split (λ b. b == mark) (xs ++ mark ∷ ys) ≡ xs ∷ slice_split (λ b. b == mark) ys
split_at mark xs ys lacks = split_first (λ b. b == mark) xs mark ys lacks (same_byte mark)

-- there is at least one part
pub split_some : {X : Type 0} (p : X → Bool) (xs : List X) → (part : List X) × (parts : List (List X)) × (slice_split p xs ≡ part ∷ parts)
split_some {X = X} p [] = ([], [], refl)
split_some {X = X} p (x ∷ xs) = split_some_at (p x) refl
  where
    onto : (l : List (List X)) → (part : List X) × (parts : List (List X)) × (onto_first x l ≡ part ∷ parts)
    onto [] = (x ∷ [], [], refl)
    onto (part ∷ parts) = (x ∷ part, parts, refl)

    split_some_at : (b : Bool) → p x ≡ b → (part : List X) × (parts : List (List X)) × (slice_split p (x ∷ xs) ≡ part ∷ parts)
    split_some_at true e = ([], slice_split p xs, slice_split-cons_yes p x xs e)
    split_some_at false e = let more = onto (slice_split p xs) in (more.0, more.1, slice_split-cons_no p x xs e ∙ more.2)

pub position_at : {X : Type 0} (p : X → Bool) (xs : List X) (i : ℕ) → Some i ≡ position p xs → (i ≡ position_or_len p xs) × (i < length xs)
position_at p xs i e = cases (nat_lt (position_or_len p xs) (length xs)) refl e
  where
    cases : (b : Bool) → nat_lt (position_or_len p xs) (length xs) ≡ b → Some i ≡ cond b (Some (position_or_len p xs)) None → (i ≡ position_or_len p xs) × (i < length xs)
    cases true below e =
        let same : i ≡ position_or_len p xs = cc in
        (same, subst (λ n. n < length xs) (sym same) (ltb-true _ _ below))
    cases false below e = cc

-- the first complete line of a text, and what follows it
pub line_cut : (bs : List ℕ) (i left : ℕ) → Some i ≡ position (λ b. b == 10) bs → length (drop (i + 1) bs) ≤ left → IsCutLine bs (take i bs) (take left (drop (i + 1) bs))
line_cut bs i left e enough =
    let found = position_at (λ b. b == 10) bs i e in
    let rest : take left (drop (i + 1) bs) ≡ drop (i + 1) bs = take_all left (drop (i + 1) bs) enough in
    let first = slice_split_first (λ b. b == 10) bs 0 (subst (λ n. n < length bs) found.0 found.1) in
    record {
      parts = subst (λ n. parts_of bs ≡ take n bs ∷ parts_of (drop (n + 1) bs)) (sym found.0) first ∙ ap (λ l. take i bs ∷ parts_of l) (sym rest);
      length = omega (arith, found.1, ap length rest, length-drop (i + 1) bs, length-take-le i bs (omega (arith, found.1)));
    }

-- if no index is the first that passes, no element passes
module _ {X : Type 0} (p : X → Bool) where
  absent_step : (x : X) (xs : List X) (t : Bool) (n : ℕ) → p x ≡ t → suc (length xs) ≤ cond (not t) (1 + n) 0 → (length xs ≤ n → list_any p xs ≡ false) → list_any p (x ∷ xs) ≡ false
  absent_step x xs true n e long more = absurd (omega (arith, long))
  absent_step x xs false n e long more = subst (λ t. (t || list_any p xs) ≡ false) (sym e) (more (omega (arith, long)))

  absent_all : (xs : List X) → length xs ≤ prefix_len (λ x. not (p x)) xs → list_any p xs ≡ false
  absent_all [] long = refl
  absent_all (x ∷ xs) long = absent_step x xs (p x) (prefix_len (λ x. not (p x)) xs) refl long (absent_all xs)

  none_past : (m n : ℕ) (t : Bool) → nat_lt m n ≡ t → None ≡ cond t (Some m) None → n ≤ m
  none_past m n true e none = cc
  none_past m n false e none = ltb-false m n e

  pub position_none : (xs : List X) → None ≡ position p xs → list_any p xs ≡ false
  position_none xs e = absent_all xs (none_past (position_or_len p xs) (length xs) (nat_lt (position_or_len p xs) (length xs)) refl e)

-- a text with no line feed has no complete line
pub line_none : (bs : List ℕ) → None ≡ position (λ b. b == 10) bs → parts_of bs ≡ bs ∷ []
line_none bs e = split_lacking 10 bs (position_none (λ b. b == 10) bs e)
