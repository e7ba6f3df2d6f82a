-- The stack of what is wanted, one more.
use Rattle.std.proofs.Common.{◌≡◌, ◌<◌, ◌≤◌, ℕ, ◌+◌, ◌-◌, List, [], ◌∷◌, ◌++◌, length, drop, get_or, map, refl, sym, ap, ◌∙◌, arith}
use Rattle.std.proofs.lemmas.List.{drop_more}
use Rattle.flow_model.specs.declared.sort.Sort.{Sort}
use Rattle.flow_text.specs.Resolving.{Expected, operand}
use Rattle.flow_text.specs.declared.resolve.Expected.{Expected as IsExpected}
use Rattle.flow_text.specs.Working.Wanting.{expected_syntax, expected_stack}
use Rattle.flow_syntax.proofs.Reversed.{reversed_append}

pub expected_push : (ws : List IsExpected) (w : IsExpected) → expected_stack (ws ++ w ∷ []) ≡ expected_syntax w ∷ expected_stack ws
unfolding expected_stack
expected_push ws w = reversed_append expected_syntax ws (w ∷ [])

pub expected_none : expected_stack [] ≡ []
unfolding expected_stack
expected_none = refl

-- another operand is needed before others
pub operand_before : (sorts : List Sort) (n : ℕ) (d : Sort) (olds news others : List Expected) → 0 < n → n ≤ length sorts → news ≡ operand (get_or sorts (n - 1) d) ∷ olds → olds ≡ map operand (drop n sorts) ++ others → news ≡ map operand (drop (n - 1) sorts) ++ others
operand_before sorts n d olds news others some le is invariant =
    let back : n ≡ n - 1 + 1 = omega arith in
    is ∙ ap (λ ws. operand (get_or sorts (n - 1) d) ∷ ws) invariant ∙ ap (λ m. operand (get_or sorts (n - 1) d) ∷ (map operand (drop m sorts) ++ others)) back
    ∙ sym (ap (λ l. map operand l ++ others) (drop_more sorts (n - 1) d (omega arith)))

pub ruleset expects = (expected_push, expected_none)
