use Rattle.std.proofs.Common.{◌≡◌, ◌⊎◌, inl, inr, ◌≤◌, ◌-◌, ◌∙◌, length, drop, ap, arith, rules}
use Rattle.std.proofs.lemmas.List.{take_rest}
use Rattle.kat_model.specs.Stores.{modulus}
use Rattle.abstraction.specs.Rounds.{rounds}
use Rattle.abstraction.proofs.AppendedRows.{none_gone_over, rounds_go_on, rounds_end}
use Rattle.abstraction.proofs.rounds.add_rounds.Goals as goal
use Rattle.abstraction.proofs.rounds.add_rounds.Goals.{then-done-len-via-then-done-len, then-done-len-via-else-done-len+then-len-most}

pub loop-round-init : goal.loop-round-init
loop-round-init c =
    let m = modulus c.args.width in
    let turns : c.args.count - 0 ≡ c.args.count = omega arith in (
      omega arith,
      none_gone_over c.args.most m c.args.assignments.now c.args.assignments.now c.args.rows.now.items,
      ap (λ n. rounds n m c.args.most c.args.assignments.now c.args.rows.now.items) turns,
    )

pub loop-round-preserved : goal.loop-round-preserved
loop-round-preserved c =
    let rows = c.loop-round.rows.items in
    let len : c.len-len.result ≡ length rows = c.len-len.ensures ∙ c.loop-round.rows.ok.0 in
    let fresh : c.in_ok-fresh.fresh.items ≡ drop c.loop-round.done rows =
    c.in_ok-fresh.ensures ∙ take_rest c.deref.result.now c.loop-round.done ∙ ap (drop c.loop-round.done) c.deref.ensures.value in
    rw (len) (rounds_go_on c.args.most (modulus c.args.width) c.args.assignments.now c.args.count c.loop-round.round c.loop-round.done c.args.rows.now.items rows
    c.in_ok-fresh.fresh.items c.append_substitutions.new.rows.items c.loop-round-test.true fresh c.loop-round.invariant.1 (search rules) c.loop-round.invariant.2)

pub returns-after-loop-round : goal.returns-after-loop-round
returns-after-loop-round c =
    let none : c.args.count - c.loop-round.round ≡ 0 = omega (arith, c.loop-round-test.false) in
    rw (none) at c.loop-round.invariant.2

pub returns-then-done-len : goal.returns-then-done-len
returns-then-done-len c =
    let rows = c.loop-round.rows.items in
    let len : c.len-len.result ≡ length rows = c.len-len.ensures ∙ c.loop-round.rows.ok.0 in
    let end : (length rows ≤ c.loop-round.done) ⊎ (c.args.most ≤ length rows) =
    elim c.then-done-len.branch [ then-done-len-via-then-done-len w ↦ inl (omega (arith, len, w.if-done-len.true)) | then-done-len-via-else-done-len+then-len-most w ↦ inr (omega (arith, len, w.if-len-most.true)) ] in
    rounds_end c.args.most (modulus c.args.width) c.args.assignments.now c.args.count c.loop-round.round c.loop-round.done c.args.rows.now.items rows end c.loop-round.invariant.1 c.loop-round.invariant.2
