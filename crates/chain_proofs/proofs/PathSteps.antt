-- Reading paths part by part.
use Rattle.std.proofs.Common.{◌≡◌, ℕ, ◌+◌, List, [], ◌∷◌, cond, Ok, drop, refl}
use Rattle.std.proofs.lemmas.List.{drop-drop}
use Rattle.text_parser.specs.declared.terminal.Terminal.TheVariants.{Dot}
use Rattle.text_parser.specs.Lexemes.{Lexeme, heads, is_terminal}
use Rattle.text_parser.specs.Parsed.{◌>>=◌}
use Rattle.chain_proofs.specs.ChainActions.{ChainActions}
use Rattle.problem_file.specs.Items.{number_at}
use Rattle.chain_proofs.specs.ChainWalks.{parts_by}

pub second_drop : {T : Type 0} (n : ℕ) (xs : List T) → drop 2 (drop n xs) ≡ drop (n + 2) xs
second_drop n xs = drop-drop 2 n xs

-- a dot is followed by a further part
pub parts_step : {Z T R P V : Type 0} (g : ChainActions Z T R P V) (p : P) (ts : List Lexeme) → parts_by g p ts ≡ cond (heads (is_terminal Dot) ts) (number_at (drop 1 ts) >>= λ n. parts_by g (g.part p n) (drop 2 ts)) (Ok (p, ts))
unfolding parts_by
parts_step g p [] = refl
parts_step g p (x ∷ []) = refl
parts_step g p (x ∷ y ∷ ts) = refl
