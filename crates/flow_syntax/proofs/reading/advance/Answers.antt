use Rattle.std.proofs.Common.{◌∷◌, drop, reverse, sym, subst}
use Rattle.flow_syntax.specs.declared.rule.Part.{Part}
use Rattle.flow_syntax.specs.Rules.{parts_of_rules}
use Rattle.flow_syntax.specs.Moves.{state, move}
use Rattle.flow_syntax.specs.Working.Reading.{Makes}
use Rattle.flow_syntax.proofs.reading.advance.Goals as goal

pub returns-in-Token : goal.returns-in-Token
returns-in-Token c =
    let ps = reverse c.args.stack.now.items in
    record {
      value = subst (λ (p : Part). Makes c.args.marks.now ps c.take.result (move (parts_of_rules c.args.rules.now) c.args.end (state c.args.depth (p ∷ ps) (drop c.args.at c.args.marks.now))))
          (sym c.in-Token.is) (c.take.ensures ps);
    }

pub returns-in-Opening : goal.returns-in-Opening
returns-in-Opening c =
    let ps = reverse c.args.stack.now.items in
    record {
      value = subst (λ (p : Part). Makes c.args.marks.now ps c.take_opening.result (move (parts_of_rules c.args.rules.now) c.args.end (state c.args.depth (p ∷ ps) (drop c.args.at c.args.marks.now))))
          (sym c.in-Opening.is) (c.take_opening.ensures ps);
    }
