use Rattle.std.proofs.Common.{◌≡◌, sym, subst, ◌∙◌, arith}
use Rattle.text_parser.specs.Working.Fronts.{IsFirst, symbol_len}
use Rattle.text_parser.specs.declared.token.Kind.TheVariants.{Number, Symbol}
use Rattle.text_parser.proofs.Fronts.{name_first, number_first, symbol_first, none_first}
use Rattle.text_parser.proofs.lexer.first_token.Goals as goal

pub returns-then-begins_name-clause-token : goal.returns-then-begins_name-clause-token
returns-then-begins_name-clause-token c =
    name_first _ _ c.in_ok-first.first c.utf8.text (_, sym c.chars.ensures.rest ∙ c.in_ok-first.ensures.steps.0) (sym c.if-begins_name.ensures) c.name_len.ensures

pub returns-then-is_ascii_digit-clause-token : goal.returns-then-is_ascii_digit-clause-token
returns-then-is_ascii_digit-clause-token c =
    subst (λ n. IsFirst Number n c.args.text.now) (sym c.number_len.ensures)
    (number_first _ c.in_ok-first.first c.utf8.text (_, sym c.chars.ensures.rest ∙ c.in_ok-first.ensures.steps.0) (sym c.if-begins_name.ensures) (sym c.if-is_ascii_digit.ensures.value))

pub returns-then-n-gt0-clause-token : goal.returns-then-n-gt0-clause-token
returns-then-n-gt0-clause-token c =
    let same : c.symbol_len-n.result ≡ symbol_len c.args.text.now = subst (λ l. c.symbol_len-n.result ≡ symbol_len l) c.as_bytes.ensures.value c.symbol_len-n.ensures in
    subst (λ n. IsFirst Symbol n c.args.text.now) (sym same)
    (symbol_first _ c.in_ok-first.first c.utf8.text (_, sym c.chars.ensures.rest ∙ c.in_ok-first.ensures.steps.0) (sym c.if-begins_name.ensures) (sym c.if-is_ascii_digit.ensures.value) (omega (arith, same)))

pub returns-else-n-gt0-clause-none : goal.returns-else-n-gt0-clause-none
returns-else-n-gt0-clause-none c =
    let same : c.symbol_len-n.result ≡ symbol_len c.args.text.now = subst (λ l. c.symbol_len-n.result ≡ symbol_len l) c.as_bytes.ensures.value c.symbol_len-n.ensures in
    none_first _ c.in_ok-first.first (_, sym c.chars.ensures.rest ∙ c.in_ok-first.ensures.steps.0) (sym c.if-begins_name.ensures) (sym c.if-is_ascii_digit.ensures.value) (omega (arith, same))
