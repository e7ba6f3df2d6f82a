use Rattle.std.proofs.Common.{◌<◌, ◌≤◌, ℕ, List, drop, length, Result, Ok, Err}
use Rattle.text_parser.specs.declared.fault.TextFault.{TextFault}
use Rattle.text_parser.specs.declared.terminal.Terminal.TheVariants.{Separator, Zero}
use Rattle.text_parser.specs.declared.terminal.Separator.TheVariants.{Semicolon, Equals}
use Rattle.text_parser.specs.Lexemes.{Lexeme, lexemes, is_terminal}
use Rattle.text_parser.specs.Parsed.{Reads, then_expects}
use Rattle.problem_file.specs.ItemActions.{Measurement, ItemActions}
use Rattle.problem_file.specs.Items.{term_by, zero_by}
use Rattle.problem_file.specs.Working.Followed.{Follows}
use Rattle.problem_file.specs.Working.Walks.{measured_of}
use Rattle.problem_file.proofs.FollowedParts.{followed_reads}
use Rattle.problem_file.proofs.ReadFaults.{read_fault, fault_ends, made_ends, made_within}
use Rattle.problem_file.proofs.ItemParts.{zero_phrase, zero_unread, zero_ended}
use Rattle.problem_file.proofs.items.read_zero.Goals as goal

-- the term and the three tokens after it
phrase_read : {V S X : Type 0} (means : V → Measurement X) (all : List Lexeme) (g : ItemActions S X) (s : S) (ts : List Lexeme) (term equated zero ended : Result (V × ℕ) TextFault) → Reads ⊥ means all term (term_by g s ts)
    → Follows all (is_terminal (Separator Equals)) term equated → Follows all (is_terminal Zero) equated zero → Follows all (is_terminal (Separator Semicolon)) zero ended → Reads ⊥ means all ended (zero_phrase g s ts)
phrase_read means all g s ts term equated zero ended read first second third =
    let one = then_expects (is_terminal (Separator Equals)) (term_by g s ts) in
    let two = then_expects (is_terminal Zero) one in
    followed_reads means all (is_terminal (Separator Semicolon)) zero ended two
    (followed_reads means all (is_terminal Zero) equated zero one (followed_reads means all (is_terminal (Separator Equals)) term equated (term_by g s ts) read first) second) third

pub returns-in_err-term-clause-value : goal.returns-in_err-term-clause-value
returns-in_err-term-clause-value g c =
    let a = g.R.ItemReading.actions in
    let s = g.R.ItemReading.state c.args.reading.now in
    let all = lexemes c.args.toks.now in
    let ts = drop c.args.from all in
    let e = c.in_err-term.field-0.0 in
    let given = read_fault (measured_of all) all (zero_phrase a s ts) e (phrase_read (measured_of all) all a s ts c.term_at-term.result c.expect_after-equated.result c.expect_after-zero.result (Err e) c.term_at-term.ensures.value c.expect_after-equated.ensures.value c.expect_after-zero.ensures.value c.in_err-term.ensures.value) in
    fault_ends g.R.ItemReading.memory all s (zero_by a s c.args.at ts) e c.from_residual.result c.from_residual.ensures.1 given.0 (zero_unread a s c.args.at ts e given.1)

pub returns-clause-value : goal.returns-clause-value
returns-clause-value g c =
    let a = g.R.ItemReading.actions in
    let s = g.R.ItemReading.state c.args.reading.now in
    let all = lexemes c.args.toks.now in
    let ts = drop c.args.from all in
    let end = c.in_ok-term.end in
    let read = phrase_read (measured_of all) all a s ts c.term_at-term.result c.expect_after-equated.result c.expect_after-zero.result (Ok (c.in_ok-term.term, end)) c.term_at-term.ensures.value c.expect_after-equated.ensures.value c.expect_after-zero.ensures.value c.in_ok-term.ensures.value in
    made_ends g.R.ItemReading.memory all (g.R.ItemReading.state c.state_zero.new.self) end c.state_zero.result c.and.result (a.state_zero s c.args.at (measured_of all c.in_ok-term.term)) (zero_by a s c.args.at ts) c.and.ensures c.state_zero.ensures
    (zero_ended a s c.args.at ts (measured_of all c.in_ok-term.term, drop end all) read)

pub returns-clause-goes : goal.returns-clause-goes
returns-clause-goes g c =
    let from = c.args.from in
    made_within (λ end. (from < end) × (end ≤ length c.args.toks.now)) c.in_ok-term.end c.state_zero.result c.and.result c.and.ensures
    (c.in_ok-term.ensures.goes from (c.expect_after-zero.ensures.goes from (c.expect_after-equated.ensures.goes from c.term_at-term.ensures.goes)))
