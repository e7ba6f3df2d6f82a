-- Matches of whole items are sorted where they have no fault, their blocks exist, and their names are read.
use Rattle.std.proofs.Common.{◌≡◌, ◌<◌, ◌≤◌, ℕ, ◌+◌, List, [], ◌∷◌, ◌++◌, length, Bool, true, false, ◌&&◌, if◌then◌else◌, nat_eq, Option, Some, None, Ok, slice_get, refl, sym, ◌∙◌, ap, subst, arith}
use Rattle.std.specs.Str.{bytes_eq}
use Rattle.text_parser.specs.TokenParts.{TokenParts, place_of, bytes_of}
use Rattle.text_parser.specs.Parsed.{◌>>=◌}
use Rattle.flow_model.specs.declared.sort.Sort.{Sort}
use Rattle.flow_model.specs.Conditions.{always}
use Rattle.flow_ways.specs.Conditions.{IsSortedCond}
use Rattle.flow_syntax.specs.Syntax.{ExprSyntax, CondSyntax, BlockSyntax, a_block, EquationSyntax, equation, BlockMatchSyntax, same_names, two_blocks}
use Rattle.flow_syntax.proofs.WholeSyntax.{ArePolish, IsWholeOrNone, AreWholeEquations, IsWholeMatch}
use Rattle.flow_text.specs.Scopes.{ScopeParts, counts, meaning_in, scope_before}
use Rattle.flow_text.specs.Resolving.{expression_of}
use Rattle.flow_model.specs.Matches.{Equation}
use Rattle.flow_text.specs.Matches.{FileMatch}
use Rattle.flow_text.specs.MatchNames.{names_of_match}
use Rattle.flow_text.specs.Checking.{next_target, found, block_or_fault, block_names, GivenMatch, given_match, is_given_by, equation_for, next_equation, equations_after, condition_or_always, rounds_given, may_match, blocks_matched, file_match, resolved_match, with_name, with_names, next_matches, matches_after, matches_between}
use Rattle.flow_laws.specs.SortedMatches.{IsSortedEquation, AreSortedEquations, IsSortedMatch}
use Rattle.flow_laws.proofs.Holding.{Holds, any_holds, then_holds, if_holds, both_hold}
use Rattle.flow_laws.proofs.SortedNodes.{IsAt, expression_good}
use Rattle.flow_laws.proofs.SortedGraphs.{IsTarget, meant_good, condition_good, taken_declared}
use Rattle.flow_laws.proofs.NamedMatches.{AreNamesRead, plain_named, names_read}

abbrev pub IsGoodMatch : List Sort → ℕ → ℕ → FileMatch → Type 0
IsGoodMatch sorts n m x = IsSortedMatch sorts n m x.blocks × AreNamesRead x

abbrev pub AreMatches : List Sort → ℕ → ℕ → List FileMatch → Type 0
AreMatches sorts n m [] = Unit {0}
AreMatches sorts n m (x ∷ xs) = IsGoodMatch sorts n m x × AreMatches sorts n m xs

matches_more : (sorts : List Sort) (n m : ℕ) (xs : List FileMatch) (x : FileMatch) → AreMatches sorts n m xs → IsGoodMatch sorts n m x → AreMatches sorts n m (xs ++ x ∷ [])
matches_more sorts n m [] x h k = (k, tt)
matches_more sorts n m (y ∷ ys) x h k = (h.0, matches_more sorts n m ys x h.1 k)

equations_more : (sorts : List Sort) (qs : List Equation) (q : Equation) → AreSortedEquations sorts qs → IsSortedEquation sorts q → AreSortedEquations sorts (qs ++ q ∷ [])
equations_more sorts [] q h k = (k, tt)
equations_more sorts (p ∷ ps) q h k = (h.0, equations_more sorts ps q h.1 k)

-- ---- blocks

if_below : (b : Bool) (j k n : ℕ) (o : Option ℕ) → j < n → (o ≡ Some k → k < n) → (if b then Some j else o) ≡ Some k → k < n
if_below true j k n o h f e = let same : j ≡ k = cc in subst (λ i. i < n) same h
if_below false j k n o h f e = f e

found_below : (n j : ℕ) (bs : List BlockSyntax) (text : List ℕ) (k : ℕ) → j + length bs ≤ n → found (block_names j bs) text ≡ Some k → k < n
found_below n j [] text k h e = absurd cc
found_below n j (a_block is_cut name statements jump ∷ bs) text k h e =
    if_below (bytes_eq (bytes_of name) text) j k n (found (block_names (j + 1) bs) text) (omega (arith, h)) (found_below n (j + 1) bs text k (omega (arith, h))) e

-- names with numbers below `n`
abbrev AreNumbered : ℕ → List (List ℕ × ℕ) → Type 0
AreNumbered n [] = Unit {0}
AreNumbered n (x ∷ xs) = (x.1 < n) × AreNumbered n xs

names_numbered : (n j : ℕ) (bs : List BlockSyntax) → j + length bs ≤ n → AreNumbered n (block_names j bs)
names_numbered n j [] h = tt
names_numbered n j (a_block is_cut name statements jump ∷ bs) h = (omega (arith, h), names_numbered n (j + 1) bs (omega (arith, h)))

block_exists : (n : ℕ) (t : TokenParts) (o : Option ℕ) → ((k : ℕ) → o ≡ Some k → k < n) → Holds (λ k. k < n) (block_or_fault t o)
block_exists n t None h = tt
block_exists n t (Some k) h = h k refl

abbrev AreBelow : ℕ → ℕ → ℕ × ℕ → Type 0
AreBelow n m x = (x.0 < n) × (x.1 < m)

-- ---- equations

module _ (s : ScopeParts) (sorts : List Sort) (declared : (k : ℕ) (sort : Sort) → slice_get s.variables k ≡ Some sort → slice_get sorts k ≡ Some sort) where
  value_good : (before : List Equation) (y : TokenParts) (e : ExprSyntax) (x : ℕ × Sort) → ArePolish 1 e → IsTarget sorts x → Holds (IsSortedEquation sorts) (equation_for s before y e x)
  value_good before y e x h a =
      if_holds (IsSortedEquation sorts) (is_given_by before x.0) _ (expression_of s x.1 e >>= λ v. Ok (record { variable = x.0; expression = v })) (λ again. tt)
      (then_holds (IsAt sorts x.1) (IsSortedEquation sorts) (expression_of s x.1 e) (λ v. Ok (record { variable = x.0; expression = v })) (expression_good s sorts declared x.1 e h) (λ v b.
      (a ∙ ap (λ (i : Sort). Some i) (sym b.1), b.0)))

  equation_good : (before : List Equation) (y : TokenParts) (e : ExprSyntax) → ArePolish 1 e → Holds (IsSortedEquation sorts) (next_equation s before (equation y e))
  equation_good before y e h =
      then_holds (IsTarget sorts) (IsSortedEquation sorts) (next_target s [] y) (equation_for s before y e) (meant_good s sorts declared [] y (meaning_in s y)) (λ x a.
      value_good before y e x h a)

  equations_good : (qs : List EquationSyntax) (before : List Equation) → AreWholeEquations qs → AreSortedEquations sorts before → Holds (AreSortedEquations sorts) (equations_after s before qs)
  equations_good [] before h k = k
  equations_good (equation y e ∷ qs) before h k =
      then_holds (IsSortedEquation sorts) (AreSortedEquations sorts) (next_equation s before (equation y e)) (λ x. equations_after s (before ++ x ∷ []) qs) (equation_good before y e h.0) (λ x a.
      equations_good qs (before ++ x ∷ []) h.1 (equations_more sorts before x k a))

  given_condition_good : (b : CondSyntax) → IsWholeOrNone b → Holds (IsSortedCond sorts) (condition_or_always s b)
  given_condition_good [] h = tt
  given_condition_good (n ∷ ns) h = condition_good s sorts declared (n ∷ ns) h

  match_good : (n m : ℕ) (blocks : ℕ × ℕ) (at : ℕ) (b : BlockMatchSyntax) → IsWholeMatch (two_blocks b) → blocks.0 < n → blocks.1 < m → Holds (λ (x : FileMatch). IsSortedMatch sorts n m x.blocks) (resolved_match s blocks at b)
  match_good n m blocks at b h below others =
      then_holds (AreSortedEquations sorts) (λ (x : FileMatch). IsSortedMatch sorts n m x.blocks) (equations_after s [] b.forth) _ (equations_good b.forth [] h.0 tt) (λ f forth.
      then_holds (AreSortedEquations sorts) (λ (x : FileMatch). IsSortedMatch sorts n m x.blocks) (equations_after s [] b.back) _ (equations_good b.back [] h.1 tt) (λ g back.
      then_holds (AreSortedEquations sorts) (λ (x : FileMatch). IsSortedMatch sorts n m x.blocks) (equations_after s [] b.keeping) _ (equations_good b.keeping [] h.2 tt) (λ q keeping.
      then_holds (IsSortedCond sorts) (λ (x : FileMatch). IsSortedMatch sorts n m x.blocks) (condition_or_always s b.condition) _ (given_condition_good b.condition h.3) (λ c condition.
      then_holds (λ r. Unit {0}) (λ (x : FileMatch). IsSortedMatch sorts n m x.blocks) (rounds_given b.rounds) (λ r. Ok (file_match blocks f g q c r b.splits at (names_of_match s b))) (any_holds (rounds_given b.rounds)) (λ r u.
      record { before_exists = below; after_exists = others; forth_sorted = forth; back_sorted = back; keeping_sorted = keeping; condition_sorted = condition })))))

-- ---- matches; `first` and `second` give numbers of blocks of two graphs, which have `n` and `m`

abbrev pub IsWholeGiven : GivenMatch → Type 0
IsWholeGiven (given_match c word m) = IsWholeMatch m

abbrev pub AreWholeGiven : List GivenMatch → Type 0
AreWholeGiven [] = Unit {0}
AreWholeGiven (x ∷ xs) = IsWholeGiven x × AreWholeGiven xs

pub given_more : (xs : List GivenMatch) (x : GivenMatch) → AreWholeGiven xs → IsWholeGiven x → AreWholeGiven (xs ++ x ∷ [])
given_more [] x h k = (k, tt)
given_more (y ∷ ys) x h k = (h.0, given_more ys x h.1 k)

module _ (s : ScopeParts) (n m : ℕ) (first second : List ℕ → Option ℕ) (first_below : (text : List ℕ) (k : ℕ) → first text ≡ Some k → k < n) (second_below : (text : List ℕ) (l : ℕ) → second text ≡ Some l → l < m) where
  name_good : (before : List FileMatch) (word : TokenParts) (k : ℕ) (o : Option ℕ) → k < n → ((l : ℕ) → o ≡ Some l → l < m) → AreMatches s.variables n m before → Holds (AreMatches s.variables n m) (with_name before word k o)
  name_good before word k None h below a = a
  name_good before word k (Some l) h below a =
      let x = file_match (k, l) [] [] [] always None false (place_of word) [] in
      if_holds (AreMatches s.variables n m) (nat_eq k 0 && nat_eq l 0) (Ok before) (may_match before k l word >>= λ u. Ok (before ++ x ∷ [])) (λ entries. a)
      (then_holds (λ u. Unit {0}) (AreMatches s.variables n m) (may_match before k l word) (λ u. Ok (before ++ x ∷ [])) (any_holds (may_match before k l word)) (λ u v.
      matches_more s.variables n m before x a (record { before_exists = h; after_exists = below l refl; forth_sorted = tt; back_sorted = tt; keeping_sorted = tt; condition_sorted = tt }, plain_named (k, l) (place_of word))))

  names_good : (before : List FileMatch) (word : TokenParts) (names : List (List ℕ × ℕ)) → AreNumbered n names → AreMatches s.variables n m before → Holds (AreMatches s.variables n m) (with_names second word before names)
  names_good before word [] h a = a
  names_good before word (x ∷ xs) h a =
      then_holds (AreMatches s.variables n m) (AreMatches s.variables n m) (with_name before word x.1 (second x.0)) (λ ms. with_names second word ms xs) (name_good before word x.1 (second x.0) h.0 (second_below x.0) a) (λ ms b.
      names_good ms word xs h.1 b)

  blocks_exist : (before : List FileMatch) (t u : TokenParts) → Holds (AreBelow n m) (blocks_matched before t u (first (bytes_of t)) (second (bytes_of u)))
  blocks_exist before t u =
      then_holds (λ k. k < n) (AreBelow n m) (block_or_fault t (first (bytes_of t))) _ (block_exists n t (first (bytes_of t)) (first_below (bytes_of t))) (λ k a.
      then_holds (λ l. l < m) (AreBelow n m) (block_or_fault u (second (bytes_of u))) _ (block_exists m u (second (bytes_of u)) (second_below (bytes_of u))) (λ l b.
      then_holds (λ v. Unit {0}) (AreBelow n m) (may_match before k l t) (λ v. Ok (k, l)) (any_holds (may_match before k l t)) (λ v w. (a, b))))

  item_good : (names : List (List ℕ × ℕ)) (before : List FileMatch) (x : GivenMatch) → AreNumbered n names → IsWholeGiven x → AreMatches s.variables n m before → Holds (AreMatches s.variables n m) (next_matches s names first second before x)
  item_good names before (given_match c word same_names) numbered h a = names_good before word names numbered a
  item_good names before (given_match (counts i j v g) word (two_blocks b)) numbered h a =
      let t = scope_before s (counts i j v g) in
      then_holds (AreBelow n m) (AreMatches s.variables n m) (blocks_matched before b.before b.after (first (bytes_of b.before)) (second (bytes_of b.after))) _ (blocks_exist before b.before b.after) (λ blocks exist.
      then_holds (IsGoodMatch s.variables n m) (AreMatches s.variables n m) (resolved_match t blocks (place_of word) b) (λ x. Ok (before ++ x ∷ []))
      (both_hold (λ (x : FileMatch). IsSortedMatch s.variables n m x.blocks) AreNamesRead (resolved_match t blocks (place_of word) b) (match_good t s.variables (taken_declared v s.variables) n m blocks (place_of word) b h exist.0 exist.1) (names_read t blocks (place_of word) b h)) (λ x k.
      matches_more s.variables n m before x a k))

  items_good : (names : List (List ℕ × ℕ)) (before : List FileMatch) (xs : List GivenMatch) → AreNumbered n names → AreWholeGiven xs → AreMatches s.variables n m before → Holds (AreMatches s.variables n m) (matches_after s names first second before xs)
  items_good names before [] numbered h a = a
  items_good names before (x ∷ xs) numbered h a =
      then_holds (AreMatches s.variables n m) (AreMatches s.variables n m) (next_matches s names first second before x) (λ ms. matches_after s names first second ms xs) (item_good names before x numbered h.0 a) (λ ms b.
      items_good names ms xs numbered h.1 b)

pub matches_good : (s : ScopeParts) (bs cs : List BlockSyntax) (xs : List GivenMatch) → AreWholeGiven xs → Holds (AreMatches s.variables (length bs) (length cs)) (matches_between s bs cs xs)
matches_good s bs cs xs h =
    items_good s (length bs) (length cs) (found (block_names 0 bs)) (found (block_names 0 cs)) (λ text k e. found_below (length bs) 0 bs text k (omega arith) e) (λ text l e. found_below (length cs) 0 cs text l (omega arith) e)
    (block_names 0 bs) [] xs (names_numbered (length bs) 0 bs (omega arith)) h tt
