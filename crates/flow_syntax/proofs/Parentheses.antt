-- The search for the matching parenthesis moves by one token.
use Rattle.std.proofs.Common.{◌≡◌, ℕ, ◌+◌, List, drop}
use Rattle.std.proofs.lemmas.List.{drop-drop}

pub next_drop : {T : Type 0} (n : ℕ) (xs : List T) → drop 1 (drop n xs) ≡ drop (n + 1) xs
next_drop n xs = drop-drop 1 n xs
