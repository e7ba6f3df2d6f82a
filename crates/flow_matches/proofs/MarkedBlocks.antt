-- Marks of the blocks of matches, one after the other.
use Rattle.std.proofs.Common.{◌≡◌, ◌⊎◌, inl, inr, ◌<◌, ◌≤◌, ℕ, ◌+◌, Bool, true, false, ◌||◌, nat_eq, List, [], ◌∷◌, ◌++◌, length, map, take, get_or, slice_index_or, slice_set, refl, sym, ap, ◌∙◌, arith}
use Rattle.std.specs.List.{list_any}
use Rattle.std.proofs.lemmas.Bool.{eq-eqb, ne_eqb, eqb-true, cases_eq, cases_lt, false_from_ne_true}
use Rattle.std.proofs.lemmas.List.{length-set, get_or-set_same, get_or-set_other, get_or_past, take_more}
use Rattle.std.proofs.lemmas.List.Folds.{list_any-append}
use Rattle.kat_model.proofs.Lists.{has_any, map_has}
use Rattle.flow_model.specs.Matches.{Match}
use Rattle.flow_model.specs.declared.block_match.BlockMatch.{BlockMatch}
use Rattle.flow_model.specs.Matches.{match_of, matches_of}
use Rattle.flow_matches.specs.Tables.{AreMarks, AreBelow}

or_false : (b : Bool) → (b || false) ≡ b
or_false true = refl
or_false false = refl

or_true : (b : Bool) → (b || true) ≡ true
or_true true = refl
or_true false = refl

module _ (block : BlockMatch → ℕ) where
  abbrev pub has_match_at : List BlockMatch → ℕ → Bool
  has_match_at ms k = list_any (λ m. nat_eq (block m) k) ms

  -- the first n numbers are marked if they are blocks of the matches
  pub record AreSet (n : ℕ) (marks : List Bool) (ms : List BlockMatch) : Type 0 where
    pub long : length marks ≡ n
    pub marked : (k : ℕ) → k < n → slice_index_or marks k false ≡ has_match_at ms k

  has_pushed : (ms : List BlockMatch) (m : BlockMatch) (k : ℕ) → has_match_at (ms ++ m ∷ []) k ≡ (has_match_at ms k || nat_eq (block m) k)
  has_pushed ms m k = list_any-append (λ d. nat_eq (block d) k) ms (m ∷ []) ∙ ap (λ b. has_match_at ms k || b) (or_false (nat_eq (block m) k))

  pub set_next : (n : ℕ) (xs : List BlockMatch) (i : ℕ) (d : BlockMatch) (old new : List Bool) (b : ℕ) → i < length xs → AreSet n old (take i xs) → new ≡ slice_set old b true → b ≡ block (get_or xs i d) → AreSet n new (take (i + 1) xs)
  set_next n xs i d old new b lt so_far made is = record {
    long = ap length made ∙ length-set old b true ∙ so_far.long;
    marked = λ k h. ap (λ l. slice_index_or l k false) made ∙ by_block k h (cases_eq b k) ∙ sym (ap (λ ms. has_match_at ms k) (take_more xs i d lt) ∙ has_pushed (take i xs) (get_or xs i d) k);
  }
    where
      by_block : (k : ℕ) → k < n → (b ≡ k) ⊎ (b ≡ k → ⊥) → slice_index_or (slice_set old b true) k false ≡ (has_match_at (take i xs) k || nat_eq (block (get_or xs i d)) k)
      by_block k h (inl e) =
          ap (λ j. slice_index_or (slice_set old b true) j false) (sym e)
          ∙ get_or-set_same old b true false (omega (arith, e, h, so_far.long))
          ∙ sym (ap (λ c. has_match_at (take i xs) k || c) (eq-eqb (block (get_or xs i d)) k (sym is ∙ e)) ∙ or_true (has_match_at (take i xs) k))
      by_block k h (inr other) =
          get_or-set_other old b k true false (λ e. other (sym e))
          ∙ so_far.marked k h
          ∙ sym (ap (λ c. has_match_at (take i xs) k || c) (ne_eqb (block (get_or xs i d)) k (λ e. other (is ∙ e))) ∙ or_false (has_match_at (take i xs) k))

  -- all blocks of matches are below n: other numbers have no mark, and no match
  pub all_set : (f : Match → ℕ) → ((m : BlockMatch) → f (match_of m) ≡ block m) → (n : ℕ) (marks : List Bool) (ms : List BlockMatch) → AreSet n marks ms → AreBelow n (map block ms) → AreMarks marks (λ k. list_any (λ m. nat_eq (f m) k) (matches_of ms))
  all_set f same n marks ms set below k = by_order (cases_lt k n)
    where
      any_same : (ds : List BlockMatch) → list_any (λ m. nat_eq (f m) k) (matches_of ds) ≡ has_match_at ds k
      any_same [] = refl
      any_same (d ∷ ds) = ap (λ j. nat_eq j k || list_any (λ m. nat_eq (f m) k) (matches_of ds)) (same d) ∙ ap (λ b. nat_eq (block d) k || b) (any_same ds)

      by_order : (k < n) ⊎ (n ≤ k) → slice_index_or marks k false ≡ list_any (λ m. nat_eq (f m) k) (matches_of ms)
      by_order (inl lt) = set.marked k lt ∙ sym (any_same ms)
      by_order (inr le) =
          get_or_past marks k false (omega (arith, le, set.long))
          ∙ sym (any_same ms ∙ false_from_ne_true (has_match_at ms k) (λ e.
          let found = has_any (λ m. nat_eq (block m) k) ms e in
          let lt = below (block found.0) (map_has block ms found.0 found.1) in
          let at = eqb-true (block found.0) k found.2 in
          omega (arith, lt, at, le)))
