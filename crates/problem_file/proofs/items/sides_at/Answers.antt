use Rattle.std.proofs.Common.{◌≡◌, drop, Ok, Err, refl, arith}
use Rattle.text_parser.specs.declared.terminal.Terminal.TheVariants.{Separator}
use Rattle.text_parser.specs.declared.terminal.Separator.TheVariants.{Comma}
use Rattle.text_parser.specs.Lexemes.{lexemes, is_terminal}
use Rattle.text_parser.specs.Parsed.{then_expects}
use Rattle.while_lang.proofs.BlockFaults.{part_fails}
use Rattle.problem_file.specs.Items.{side_by, sides_by}
use Rattle.problem_file.specs.Working.Walks.{measured_of, sides_of}
use Rattle.problem_file.proofs.FollowedParts.{followed_reads}
use Rattle.problem_file.proofs.items.sides_at.Goals as goal

pub returns-in_err-left-clause-value : goal.returns-in_err-left-clause-value
returns-in_err-left-clause-value g c =
    let a = g.R.ItemReading.actions in
    let s = g.R.ItemReading.state c.args.reading.now in
    let all = lexemes c.args.toks.now in
    let ts = drop c.args.from all in
    let e = c.in_err-left.field-0.0 in
    let p = is_terminal (Separator Comma) in
    let m = side_by a s ts in
    part_fails ⊥ (sides_of all) all (sides_by a s ts) e c.from_residual.result c.from_residual.ensures.1 (measured_of all) (then_expects p m)
    (followed_reads (measured_of all) all p c.side_at-left.result (Err e) m c.side_at-left.ensures.value c.in_err-left.ensures.value) (λ h. rw (h) refl)

pub returns-in_err-right-clause-value : goal.returns-in_err-right-clause-value
returns-in_err-right-clause-value g c =
    let a = g.R.ItemReading.actions in
    let s = g.R.ItemReading.state c.args.reading.now in
    let all = lexemes c.args.toks.now in
    let ts = drop c.args.from all in
    let e = c.in_err-right.field-0.0 in
    let end = c.in_ok-left.end in
    let p = is_terminal (Separator Comma) in
    let m = side_by a s ts in
    let first : then_expects p m ≡ Ok (measured_of all c.in_ok-left.left, drop end all) = followed_reads (measured_of all) all p c.side_at-left.result (Ok (c.in_ok-left.left, end)) m c.side_at-left.ensures.value c.in_ok-left.ensures.value in
    part_fails ⊥ (sides_of all) all (sides_by a s ts) e c.from_residual-in_err-right.result c.from_residual-in_err-right.ensures.1 (measured_of all) (side_by a s (drop end all)) c.in_err-right.ensures.value (λ h. rw (first, h) refl)

pub returns-clause-value : goal.returns-clause-value
returns-clause-value g c =
    let a = g.R.ItemReading.actions in
    let s = g.R.ItemReading.state c.args.reading.now in
    let all = lexemes c.args.toks.now in
    let ts = drop c.args.from all in
    let end = c.in_ok-left.end in
    let p = is_terminal (Separator Comma) in
    let m = side_by a s ts in
    let first : then_expects p m ≡ Ok (measured_of all c.in_ok-left.left, drop end all) = followed_reads (measured_of all) all p c.side_at-left.result (Ok (c.in_ok-left.left, end)) m c.side_at-left.ensures.value c.in_ok-left.ensures.value in
    rw (first, c.in_ok-right.ensures.value) refl

pub returns-clause-goes : goal.returns-clause-goes
returns-clause-goes g c =
    let first = c.in_ok-left.ensures.goes c.args.from c.side_at-left.ensures.goes in
    (omega (arith, first.0, c.in_ok-right.ensures.goes.0), c.in_ok-right.ensures.goes.1)
