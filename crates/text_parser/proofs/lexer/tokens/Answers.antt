use Rattle.std.proofs.Common.{◌<◌, ◌≡◌, length, sym, subst, arith, eqb-true, false-eqb}
use Rattle.text_parser.specs.Lex.{BeginsNone}
use Rattle.text_parser.proofs.Ends.{gap_of, cut_at, lexes_end, bad_at}
use Rattle.text_parser.proofs.lexer.tokens.Goals as goal

pub range_from-rest-requires : goal.range_from-rest-requires
range_from-rest-requires c =
    let gap = gap_of _ _ _ c.as_bytes.ensures.value c.gap_len-gap.ensures in
    λ _. cut_at _ _ c.loop-rest.invariant.utf8 gap

pub returns-then-is_empty-clause-read : goal.returns-then-is_empty-clause-read
returns-then-is_empty-clause-read c =
    let gap = gap_of _ _ _ c.as_bytes.ensures.value c.gap_len-gap.ensures in
    let none : length c.range_from-rest.result.now ≡ 0 = eqb-true _ 0 (sym c.if-is_empty.ensures) in
    lexes_end _ _ _ _ _ (record { within = c.requires; utf8 = c.utf8.text }) c.loop-rest.invariant.whole c.loop-rest.invariant.rest c.loop-rest.invariant.place gap (subst (λ l. length l ≡ 0) c.range_from-rest.ensures.value none)

pub returns-in_default-clause-bad : goal.returns-in_default-clause-bad
returns-in_default-clause-bad c =
    let gap = gap_of _ _ _ c.as_bytes.ensures.value c.gap_len-gap.ensures in
    let some : 0 < length c.range_from-rest.result.now = omega (arith, false-eqb _ 0 c.if-is_empty.ensures) in
    bad_at _ _ _ _ _ (record { within = c.requires; utf8 = c.utf8.text }) c.loop-rest.invariant.whole c.loop-rest.invariant.rest c.loop-rest.invariant.place gap
    (subst (λ l. 0 < length l) c.range_from-rest.ensures.value some) (subst BeginsNone c.range_from-rest.ensures.value c.in_default.ensures.none)
