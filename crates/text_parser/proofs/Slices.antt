-- The tokens of a text are slices of it, in order.
use Rattle.std.proofs.Common.{◌≡◌, ◌≤◌, ◌<◌, ◌+◌, ℕ, List, [], ◌∷◌, ◌++◌, length, take, drop, map, get_or, refl, sym, ap, arith, subst, length-append, length-drop, zero, suc}
use Rattle.std.proofs.lemmas.List.{take_at}
use Rattle.std.specs.Prelude.{All}
use Rattle.std.specs.List.Sorted.{IsStrictlyIncreasing}
use Rattle.text_parser.specs.declared.token.Kind.{Kind}
use Rattle.text_parser.specs.TokenParts.{TokenParts, token_parts, place_of}
use Rattle.text_parser.specs.Lex.{IsLongest, LexesFrom, IsSlice}
use Rattle.text_parser.proofs.Fronts.{token_some}

pub slice_at : (text : List ℕ) (kind : Kind) (place : ℕ) (token : List ℕ) → IsLongest kind token (drop place text) → IsSlice text (token_parts kind place token)
slice_at text kind place token longest =
    let some = token_some kind token longest.is_token in
    let size : length (drop place text) ≡ length (token ++ longest.front.0) = ap length longest.front.1 in
    record {
      is_token = longest.is_token;
      some = some;
      inside = omega (arith, some, size, length-append token longest.front.0, length-drop place text);
      slice = subst (λ l. take (length token) l ≡ token) (sym longest.front.1) (take_at token longest.front.0 (length token) refl);
    }

pub slices_from : (text : List ℕ) (at : ℕ) (ms : List TokenParts) (end : ℕ) → LexesFrom text at ms end → All (IsSlice text) ms
slices_from text at [] end lexed k d below = absurd (omega (arith, below))
slices_from text at (token_parts kind place token ∷ ms) end (gap, longest, more) zero d below = slice_at text kind place token longest
slices_from text at (token_parts kind place token ∷ ms) end (gap, longest, more) (suc k) d below = slices_from text (place + length token) ms end more k d (omega (arith, below))

-- the first token from a place on does not begin before that place
first_place : (text : List ℕ) (at : ℕ) (ms : List TokenParts) (end : ℕ) → LexesFrom text at ms end → 0 < length (map place_of ms) → at ≤ get_or (map place_of ms) 0 0
first_place text at [] end lexed some = absurd (omega (arith, some))
first_place text at (token_parts kind place token ∷ ms) end (gap, longest, more) some = omega (arith, gap)

later_ascend : (x : ℕ) (xs : List ℕ) (k : ℕ) → get_or xs k 0 < get_or xs (k + 1) 0 → get_or (x ∷ xs) (suc k) 0 < get_or (x ∷ xs) (suc k + 1) 0
later_ascend x xs k ascends = let e : suc (k + 1) ≡ suc k + 1 = omega arith in subst (λ n. get_or xs k 0 < get_or (x ∷ xs) n 0) e ascends

pub places_ascend : (text : List ℕ) (at : ℕ) (ms : List TokenParts) (end : ℕ) → LexesFrom text at ms end → IsStrictlyIncreasing (map place_of ms)
places_ascend text at [] end lexed k below = absurd (omega (arith, below))
places_ascend text at (token_parts kind place token ∷ ms) end (gap, longest, more) zero below =
    omega (arith, first_place text (place + length token) ms end more (omega (arith, below)), token_some kind token longest.is_token)
places_ascend text at (token_parts kind place token ∷ ms) end (gap, longest, more) (suc k) below =
    later_ascend place (map place_of ms) k (places_ascend text (place + length token) ms end more k (omega (arith, below)))
