use Rattle.std.proofs.Common.{sym, subst, arith, reverse}
use Rattle.flow_syntax.specs.Rules.{parts_of_rules}
use Rattle.flow_syntax.specs.Derivations.{IsFirstFault}
use Rattle.text_parser.specs.declared.fault.TextFault.TheVariants.{Syntax}
use Rattle.flow_syntax.proofs.MovesMade.{left_over, makes_less}
use Rattle.flow_syntax.proofs.reading.read_parts.Goals as goal

pub returns-then-at-marks-clause-refused : goal.returns-then-at-marks-clause-refused
returns-then-at-marks-clause-refused c =
    subst (λ p. IsFirstFault (parts_of_rules c.args.rules.now) c.args.phrase c.args.marks.now c.args.end (Syntax p)) (sym c.place_at.ensures)
    (left_over _ _ _ _ _ _ _ c.parts.at c.parts.invariant c.in_default.ensures.none (omega (arith, c.if-at-marks.true)))

pub parts-smaller : goal.parts-smaller
parts-smaller c =
    makes_less c.args.weights.now (parts_of_rules c.args.rules.now) c.args.end c.parts.depth c.parts.at c.in-Some.part
    (reverse c.next_part.new.stack.items) (reverse c.parts.stack.items) _ c.args.marks.now _ _ _ c.requires.light c.in-Some.ensures.some c.in_ok-step.ensures.value
