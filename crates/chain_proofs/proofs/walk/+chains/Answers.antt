use Rattle.std.proofs.Common.{◌+◌, codes, drop, Ok, Err, refl, arith}
use Rattle.std.specs.Option.{option_map}
use Rattle.text_parser.specs.declared.terminal.Terminal.TheVariants.{Separator}
use Rattle.text_parser.specs.declared.terminal.Separator.TheVariants.{Semicolon, CurlyOpen, CurlyClose}
use Rattle.text_parser.specs.Lexemes.{lexemes, is_terminal}
use Rattle.text_parser.specs.Parsed.{expects, place_of}
use Rattle.text_parser.proofs.NamedFaults.{expects_named}
use Rattle.text_parser.proofs.TokenPlaces.{next_drop}
use Rattle.while_lang.specs.Blocks.{enter}
use Rattle.while_lang.proofs.BlockFaults.{enter_named, entered, part_fails, check_fails}
use Rattle.chain_proofs.specs.ChainWalks.{expects_word, rule_by, whole_chain, lines_after, braces_by, inner_by, line_by, parse_chain}
use Rattle.chain_proofs.specs.Working.Reading.{reason_of}
use Rattle.chain_proofs.proofs.ChainParts.{both_of, word_named, accepted_fails, chain_unread, chain_begun, lines_end, lines_fail, lines_go, line_unread, line_stopped, line_unruled, line_unfilled, line_unended, line_made, inner_fails, inner_made, braces_unopened, braces_deep, braces_fail, braces_unclosed, braces_made}
use Rattle.chain_proofs.proofs.walk.+chains.Goals as goal

pub read_chain-returns-in_err-term-clause-value : goal.read_chain-returns-in_err-term-clause-value
read_chain-returns-in_err-term-clause-value g t c =
    let a = g.R.ChainReading.actions c.args.reading.now in
    let all = lexemes c.args.toks.now in
    let ts = drop c.args.from all in
    part_fails g.R.ChainReading.memory (both_of g.R.ChainReading.chain g.R.ChainReading.size) all (parse_chain a (whole_chain (g.R.ChainReading.size c.args.known)) c.args.depth ts) c.in_err-term.field-0.0 c.from_residual.result c.from_residual.ensures.1 (both_of g.R.ChainReading.term g.R.ChainReading.size) (a.term c.args.depth (g.R.ChainReading.size c.args.known) ts) c.in_err-term.ensures.value
    (chain_unread a c.args.depth ts (g.R.ChainReading.size c.args.known) c.in_err-term.field-0.0)

pub read_chain-returns-in_err-more-clause-value : goal.read_chain-returns-in_err-more-clause-value
read_chain-returns-in_err-more-clause-value g t c =
    let a = g.R.ChainReading.actions c.args.reading.now in
    let all = lexemes c.args.toks.now in
    let ts = drop c.args.from all in
    let us = drop c.lines.at all in
    let v = g.R.ChainReading.chain c.lines.list in
    let s = g.R.ChainReading.size c.lines.all in
    part_fails g.R.ChainReading.memory (both_of g.R.ChainReading.chain g.R.ChainReading.size) all (parse_chain a (whole_chain (g.R.ChainReading.size c.args.known)) c.args.depth ts) c.in_err-more.field-0.0 c.from_residual-in_err-more.result c.from_residual-in_err-more.ensures.1 (both_of g.R.ChainReading.chain g.R.ChainReading.size) (line_by a (parse_chain a) v s c.args.depth (drop (c.lines.at + 1) all)) c.in_err-more.ensures.value
    (λ h. chain_begun a c.args.depth ts (g.R.ChainReading.size c.args.known) ((g.R.ChainReading.term c.in_ok-term.term, g.R.ChainReading.size c.in_ok-term.size), drop c.in_ok-term.next all) c.in_ok-term.ensures.value (g.R.ChainReading.chain c.first-list.result) c.first-list.ensures (parse_chain a (lines_after v s) c.args.depth us) c.lines.invariant.value (Err c.in_err-more.field-0.0)
    (lines_fail a c.args.depth us v s c.lines-test.ensures.value (drop (c.lines.at + 1) all) (next_drop c.lines.at all) c.in_err-more.field-0.0 h))

pub read_chain-returns-clause-value : goal.read_chain-returns-clause-value
read_chain-returns-clause-value g t c =
    let a = g.R.ChainReading.actions c.args.reading.now in
    let all = lexemes c.args.toks.now in
    let ts = drop c.args.from all in
    let us = drop c.lines.at all in
    let v = g.R.ChainReading.chain c.lines.list in
    let s = g.R.ChainReading.size c.lines.all in
    chain_begun a c.args.depth ts (g.R.ChainReading.size c.args.known) ((g.R.ChainReading.term c.in_ok-term.term, g.R.ChainReading.size c.in_ok-term.size), drop c.in_ok-term.next all) c.in_ok-term.ensures.value (g.R.ChainReading.chain c.first-list.result) c.first-list.ensures (parse_chain a (lines_after v s) c.args.depth us) c.lines.invariant.value (Ok ((v, s), us))
    (lines_end a c.args.depth us v s c.lines-test.ensures.value)

pub read_chain-lines-init : goal.read_chain-lines-init
read_chain-lines-init g t c = record { place = c.in_ok-term.ensures.goes.0; within = c.in_ok-term.ensures.goes.1; value = refl }

pub read_chain-lines-preserved : goal.read_chain-lines-preserved
read_chain-lines-preserved g t c =
    let a = g.R.ChainReading.actions c.args.reading.now in
    let all = lexemes c.args.toks.now in
    let ts = drop c.args.from all in
    let us = drop c.lines.at all in
    let v = g.R.ChainReading.chain c.lines.list in
    let s = g.R.ChainReading.size c.lines.all in
    record {
      place = omega (arith, c.lines.invariant.place, c.in_ok-more.ensures.goes.0);
      within = c.in_ok-more.ensures.goes.1;
      value = lines_go a c.args.depth us v s c.lines-test.ensures.value (drop (c.lines.at + 1) all) (next_drop c.lines.at all) ((g.R.ChainReading.chain c.in_ok-more.more, g.R.ChainReading.size c.in_ok-more.size), drop c.in_ok-more.next all) c.in_ok-more.ensures.value (parse_chain a (lines_after (g.R.ChainReading.chain c.first-list.result) (g.R.ChainReading.size c.in_ok-term.size)) c.args.depth (drop c.in_ok-term.next all)) c.lines.invariant.value;
    }

pub line-returns-in_err-next-clause-value : goal.line-returns-in_err-next-clause-value
line-returns-in_err-next-clause-value g t c =
    let a = g.R.ChainReading.actions c.args.reading.now in
    let all = lexemes c.args.toks.now in
    let ts = drop c.args.from all in
    let v = g.R.ChainReading.chain c.args.list in
    let z = g.R.ChainReading.size c.args.known in
    let whole = line_by a (parse_chain a) v z c.args.depth ts in
    part_fails g.R.ChainReading.memory (both_of g.R.ChainReading.chain g.R.ChainReading.size) all whole c.in_err-next.field-0.0 c.from_residual.result c.from_residual.ensures.1 (both_of g.R.ChainReading.term g.R.ChainReading.size) (a.term c.args.depth z ts) c.in_err-next.ensures.value (line_unread a c.args.depth ts (parse_chain a) v z c.in_err-next.field-0.0)

pub line-returns-in_err-end-clause-value : goal.line-returns-in_err-end-clause-value
line-returns-in_err-end-clause-value g t c =
    let a = g.R.ChainReading.actions c.args.reading.now in
    let all = lexemes c.args.toks.now in
    let ts = drop c.args.from all in
    let v = g.R.ChainReading.chain c.args.list in
    let z = g.R.ChainReading.size c.args.known in
    let whole = line_by a (parse_chain a) v z c.args.depth ts in
    check_fails g.R.ChainReading.memory (both_of g.R.ChainReading.chain g.R.ChainReading.size) all whole c.in_err-end.field-0.0 c.from_residual-in_err-end.result c.from_residual-in_err-end.ensures.1 (expects_word (codes "by") (drop c.in_ok-next.end all)) (word_named (codes "by") (drop c.in_ok-next.end all)) c.in_err-end.ensures.value
    (line_stopped a c.args.depth ts (parse_chain a) v z ((g.R.ChainReading.term c.in_ok-next.next, g.R.ChainReading.size c.in_ok-next.size), drop c.in_ok-next.end all) c.in_ok-next.ensures.value c.in_err-end.field-0.0 c.in_err-end.ensures.value)

pub line-returns-in_err-rule-clause-value : goal.line-returns-in_err-rule-clause-value
line-returns-in_err-rule-clause-value g t c =
    let a = g.R.ChainReading.actions c.args.reading.now in
    let all = lexemes c.args.toks.now in
    let ts = drop c.args.from all in
    let v = g.R.ChainReading.chain c.args.list in
    let z = g.R.ChainReading.size c.args.known in
    let whole = line_by a (parse_chain a) v z c.args.depth ts in
    part_fails g.R.ChainReading.memory (both_of g.R.ChainReading.chain g.R.ChainReading.size) all whole c.in_err-rule.field-0.0 c.from_residual-in_err-rule.result c.from_residual-in_err-rule.ensures.1 (reason_of g.R.ChainReading.rule g.R.ChainReading.path) (rule_by a (drop c.in_ok-end.end all)) c.in_err-rule.ensures.value
    (line_unruled a c.args.depth ts (parse_chain a) v z ((g.R.ChainReading.term c.in_ok-next.next, g.R.ChainReading.size c.in_ok-next.size), drop c.in_ok-next.end all) c.in_ok-next.ensures.value (drop c.in_ok-end.end all) c.in_ok-end.ensures.value c.in_err-rule.field-0.0)

pub line-returns-in_err-inner-clause-value : goal.line-returns-in_err-inner-clause-value
line-returns-in_err-inner-clause-value g t c =
    let a = g.R.ChainReading.actions c.args.reading.now in
    let all = lexemes c.args.toks.now in
    let ts = drop c.args.from all in
    let v = g.R.ChainReading.chain c.args.list in
    let z = g.R.ChainReading.size c.args.known in
    let whole = line_by a (parse_chain a) v z c.args.depth ts in
    part_fails g.R.ChainReading.memory (both_of g.R.ChainReading.chain g.R.ChainReading.size) all whole c.in_err-inner.field-0.0 c.from_residual-in_err-inner.result c.from_residual-in_err-inner.ensures.1 (both_of (option_map g.R.ChainReading.chain) g.R.ChainReading.size) (inner_by (parse_chain a) c.in_ok-rule.field-0-0.inner (g.R.ChainReading.size c.in_ok-next.size) c.args.depth (drop c.in_ok-rule.end all)) c.in_err-inner.ensures.value
    (line_unfilled a c.args.depth ts (parse_chain a) v z ((g.R.ChainReading.term c.in_ok-next.next, g.R.ChainReading.size c.in_ok-next.size), drop c.in_ok-next.end all) c.in_ok-next.ensures.value (drop c.in_ok-end.end all) c.in_ok-end.ensures.value
    (reason_of g.R.ChainReading.rule g.R.ChainReading.path c.in_ok-rule.field-0-0, drop c.in_ok-rule.end all) c.in_ok-rule.ensures.value c.in_err-inner.field-0.0)

pub line-returns-in_err-end-2-clause-value : goal.line-returns-in_err-end-2-clause-value
line-returns-in_err-end-2-clause-value g t c =
    let a = g.R.ChainReading.actions c.args.reading.now in
    let all = lexemes c.args.toks.now in
    let ts = drop c.args.from all in
    let v = g.R.ChainReading.chain c.args.list in
    let z = g.R.ChainReading.size c.args.known in
    let whole = line_by a (parse_chain a) v z c.args.depth ts in
    check_fails g.R.ChainReading.memory (both_of g.R.ChainReading.chain g.R.ChainReading.size) all whole c.in_err-end-2.field-0.0 c.from_residual-in_err-end-2.result c.from_residual-in_err-end-2.ensures.1 (expects (is_terminal (Separator Semicolon)) (drop c.in_ok-inner.end all)) (expects_named (is_terminal (Separator Semicolon)) (drop c.in_ok-inner.end all)) c.in_err-end-2.ensures.value
    (line_unended a c.args.depth ts (parse_chain a) v z ((g.R.ChainReading.term c.in_ok-next.next, g.R.ChainReading.size c.in_ok-next.size), drop c.in_ok-next.end all) c.in_ok-next.ensures.value (drop c.in_ok-end.end all) c.in_ok-end.ensures.value
    (reason_of g.R.ChainReading.rule g.R.ChainReading.path c.in_ok-rule.field-0-0, drop c.in_ok-rule.end all) c.in_ok-rule.ensures.value
    ((option_map g.R.ChainReading.chain c.in_ok-inner.inner, g.R.ChainReading.size c.in_ok-inner.size), drop c.in_ok-inner.end all) c.in_ok-inner.ensures.value c.in_err-end-2.field-0.0 c.in_err-end-2.ensures.value)

pub line-returns-in_err-line-clause-value : goal.line-returns-in_err-line-clause-value
line-returns-in_err-line-clause-value g t c =
    let a = g.R.ChainReading.actions c.args.reading.now in
    let all = lexemes c.args.toks.now in
    let ts = drop c.args.from all in
    let v = g.R.ChainReading.chain c.args.list in
    let z = g.R.ChainReading.size c.args.known in
    let whole = line_by a (parse_chain a) v z c.args.depth ts in
    accepted_fails g.R.ChainReading.memory (both_of g.R.ChainReading.chain g.R.ChainReading.size) all whole c.in_err-line.field-0.0 c.from_residual-in_err-line.result c.from_residual-in_err-line.ensures.1 g.R.ChainReading.chain
    (a.line v (g.R.ChainReading.term c.in_ok-next.next) (g.R.ChainReading.rule c.in_ok-rule.field-0-0.rule) (g.R.ChainReading.path c.in_ok-rule.field-0-0.path) (option_map g.R.ChainReading.chain c.in_ok-inner.inner)) c.in_err-line.ensures

pub line-returns-clause-value : goal.line-returns-clause-value
line-returns-clause-value g t c =
    let a = g.R.ChainReading.actions c.args.reading.now in
    let all = lexemes c.args.toks.now in
    let ts = drop c.args.from all in
    let v = g.R.ChainReading.chain c.args.list in
    let z = g.R.ChainReading.size c.args.known in
    line_made a c.args.depth ts (parse_chain a) v z ((g.R.ChainReading.term c.in_ok-next.next, g.R.ChainReading.size c.in_ok-next.size), drop c.in_ok-next.end all) c.in_ok-next.ensures.value (drop c.in_ok-end.end all) c.in_ok-end.ensures.value
    (reason_of g.R.ChainReading.rule g.R.ChainReading.path c.in_ok-rule.field-0-0, drop c.in_ok-rule.end all) c.in_ok-rule.ensures.value
    ((option_map g.R.ChainReading.chain c.in_ok-inner.inner, g.R.ChainReading.size c.in_ok-inner.size), drop c.in_ok-inner.end all) c.in_ok-inner.ensures.value (drop c.in_ok-end-2.end all) c.in_ok-end-2.ensures.value
    (g.R.ChainReading.chain c.in_ok-line.field-0) c.in_ok-line.ensures

pub inner_chain-returns-then-not-follows-clause-value : goal.inner_chain-returns-then-not-follows-clause-value
inner_chain-returns-then-not-follows-clause-value g t c = rw (c.if-not-follows.true) refl

pub inner_chain-returns-in_err-inner-clause-value : goal.inner_chain-returns-in_err-inner-clause-value
inner_chain-returns-in_err-inner-clause-value g t c =
    let a = g.R.ChainReading.actions c.args.reading.now in
    let all = lexemes c.args.toks.now in
    let ts = drop c.args.from all in
    part_fails g.R.ChainReading.memory (both_of (option_map g.R.ChainReading.chain) g.R.ChainReading.size) all (inner_by (parse_chain a) c.args.follows (g.R.ChainReading.size c.args.known) c.args.depth ts) c.in_err-inner.field-0.0 c.from_residual.result c.from_residual.ensures.1 (both_of g.R.ChainReading.chain g.R.ChainReading.size) (braces_by (parse_chain a) (g.R.ChainReading.size c.args.known) c.args.depth ts) c.in_err-inner.ensures.value
    (inner_fails (parse_chain a) (g.R.ChainReading.size c.args.known) c.args.depth ts c.args.follows c.if-not-follows.false c.in_err-inner.field-0.0)

pub inner_chain-returns-clause-value : goal.inner_chain-returns-clause-value
inner_chain-returns-clause-value g t c =
    let a = g.R.ChainReading.actions c.args.reading.now in
    let all = lexemes c.args.toks.now in
    let ts = drop c.args.from all in
    inner_made (parse_chain a) (g.R.ChainReading.size c.args.known) c.args.depth ts c.args.follows c.if-not-follows.false ((g.R.ChainReading.chain c.in_ok-inner.inner, g.R.ChainReading.size c.in_ok-inner.size), drop c.in_ok-inner.end all) c.in_ok-inner.ensures.value

pub braces-returns-in_err-next-clause-value : goal.braces-returns-in_err-next-clause-value
braces-returns-in_err-next-clause-value g t c =
    let a = g.R.ChainReading.actions c.args.reading.now in
    let all = lexemes c.args.toks.now in
    let ts = drop c.args.from all in
    let z = g.R.ChainReading.size c.args.known in
    let whole = braces_by (parse_chain a) z c.args.depth ts in
    check_fails g.R.ChainReading.memory (both_of g.R.ChainReading.chain g.R.ChainReading.size) all whole c.in_err-next.field-0.0 c.from_residual.result c.from_residual.ensures.1 (expects (is_terminal (Separator CurlyOpen)) ts) (expects_named (is_terminal (Separator CurlyOpen)) ts) c.in_err-next.ensures.value (braces_unopened (parse_chain a) z c.args.depth ts c.in_err-next.field-0.0 c.in_err-next.ensures.value)

pub braces-returns-in_err-inside-clause-value : goal.braces-returns-in_err-inside-clause-value
braces-returns-in_err-inside-clause-value g t c =
    let a = g.R.ChainReading.actions c.args.reading.now in
    let all = lexemes c.args.toks.now in
    let ts = drop c.args.from all in
    let z = g.R.ChainReading.size c.args.known in
    let whole = braces_by (parse_chain a) z c.args.depth ts in
    let given = entered c.args.depth (place_of ts) c.place_at.result (Err c.in_err-inside.field-0.0) c.place_at.ensures c.in_err-inside.ensures in
    check_fails g.R.ChainReading.memory (both_of g.R.ChainReading.chain g.R.ChainReading.size) all whole c.in_err-inside.field-0.0 c.from_residual-in_err-inside.result c.from_residual-in_err-inside.ensures.1 (enter c.args.depth (place_of ts)) (enter_named c.args.depth (place_of ts)) given (braces_deep (parse_chain a) z c.args.depth ts (drop c.in_ok-next.next all) c.in_ok-next.ensures.value c.in_err-inside.field-0.0 given)

pub braces-returns-in_err-inner-clause-value : goal.braces-returns-in_err-inner-clause-value
braces-returns-in_err-inner-clause-value g t c =
    let a = g.R.ChainReading.actions c.args.reading.now in
    let all = lexemes c.args.toks.now in
    let ts = drop c.args.from all in
    let z = g.R.ChainReading.size c.args.known in
    let whole = braces_by (parse_chain a) z c.args.depth ts in
    part_fails g.R.ChainReading.memory (both_of g.R.ChainReading.chain g.R.ChainReading.size) all whole c.in_err-inner.field-0.0 c.from_residual-in_err-inner.result c.from_residual-in_err-inner.ensures.1 (both_of g.R.ChainReading.chain g.R.ChainReading.size) (parse_chain a (whole_chain z) c.in_ok-inside.inside (drop c.in_ok-next.next all)) c.in_err-inner.ensures.value
    (braces_fail (parse_chain a) z c.args.depth ts (drop c.in_ok-next.next all) c.in_ok-next.ensures.value c.in_ok-inside.inside (entered c.args.depth (place_of ts) c.place_at.result (Ok c.in_ok-inside.inside) c.place_at.ensures c.in_ok-inside.ensures) c.in_err-inner.field-0.0)

pub braces-returns-in_err-end-clause-value : goal.braces-returns-in_err-end-clause-value
braces-returns-in_err-end-clause-value g t c =
    let a = g.R.ChainReading.actions c.args.reading.now in
    let all = lexemes c.args.toks.now in
    let ts = drop c.args.from all in
    let z = g.R.ChainReading.size c.args.known in
    let whole = braces_by (parse_chain a) z c.args.depth ts in
    check_fails g.R.ChainReading.memory (both_of g.R.ChainReading.chain g.R.ChainReading.size) all whole c.in_err-end.field-0.0 c.from_residual-in_err-end.result c.from_residual-in_err-end.ensures.1 (expects (is_terminal (Separator CurlyClose)) (drop c.in_ok-inner.end all)) (expects_named (is_terminal (Separator CurlyClose)) (drop c.in_ok-inner.end all)) c.in_err-end.ensures.value
    (braces_unclosed (parse_chain a) z c.args.depth ts (drop c.in_ok-next.next all) c.in_ok-next.ensures.value c.in_ok-inside.inside (entered c.args.depth (place_of ts) c.place_at.result (Ok c.in_ok-inside.inside) c.place_at.ensures c.in_ok-inside.ensures)
    ((g.R.ChainReading.chain c.in_ok-inner.inner.0, g.R.ChainReading.size c.in_ok-inner.inner.1), drop c.in_ok-inner.end all) c.in_ok-inner.ensures.value c.in_err-end.field-0.0 c.in_err-end.ensures.value)

pub braces-returns-clause-value : goal.braces-returns-clause-value
braces-returns-clause-value g t c =
    let a = g.R.ChainReading.actions c.args.reading.now in
    let all = lexemes c.args.toks.now in
    let ts = drop c.args.from all in
    let z = g.R.ChainReading.size c.args.known in
    braces_made (parse_chain a) z c.args.depth ts (drop c.in_ok-next.next all) c.in_ok-next.ensures.value c.in_ok-inside.inside (entered c.args.depth (place_of ts) c.place_at.result (Ok c.in_ok-inside.inside) c.place_at.ensures c.in_ok-inside.ensures)
    ((g.R.ChainReading.chain c.in_ok-inner.inner.0, g.R.ChainReading.size c.in_ok-inner.inner.1), drop c.in_ok-inner.end all) c.in_ok-inner.ensures.value (drop c.in_ok-end.end all) c.in_ok-end.ensures.value
