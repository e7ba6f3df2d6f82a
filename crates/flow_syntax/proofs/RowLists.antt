-- The rules of the first rows of a table.
use Rattle.std.proofs.Common.{◌≡◌, ◌<◌, ℕ, ◌+◌, List, [], ◌∷◌, ◌++◌, length, map, take, get_or, sym, ap, ◌∙◌}
use Rattle.std.proofs.lemmas.List.{take_more, map-append}
use Rattle.flow_syntax.specs.Rules.{RuleParts}
use Rattle.flow_syntax.specs.declared.grammar.RuleRow.{RuleRow}
use Rattle.flow_syntax.specs.Working.Rows.{row_parts}

pub one_more_row : (rows : List RuleRow) (i : ℕ) (d : RuleRow) (before after : List RuleParts) → i < length rows → before ≡ map row_parts (take i rows) → after ≡ before ++ row_parts (get_or rows i d) ∷ [] → after ≡ map row_parts (take (i + 1) rows)
one_more_row rows i d before after lt done added =
    added ∙ ap (λ rs. rs ++ row_parts (get_or rows i d) ∷ []) done
    ∙ sym (ap (map row_parts) (take_more rows i d lt) ∙ map-append row_parts (take i rows) (get_or rows i d ∷ []))
