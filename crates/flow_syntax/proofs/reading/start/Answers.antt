use Rattle.std.proofs.Common.{◌++◌, drop, Some, sym, subst}
use Rattle.flow_syntax.specs.declared.rule.Start.{Start}
use Rattle.flow_syntax.specs.Rules.{rule_parts}
use Rattle.flow_syntax.specs.Moves.{predicted}
use Rattle.flow_syntax.specs.Working.Reading.{Makes}
use Rattle.flow_syntax.proofs.reading.start.Goals as goal

pub returns-in-Take : goal.returns-in-Take
returns-in-Take c = λ ps.
    let r = c.args.rule.now in
    subst (λ (s : Start). Makes c.args.marks.now (r.parts.items ++ ps) c.take.result (predicted c.args.end c.args.depth ps (drop c.args.at c.args.marks.now) (Some (c.args.number, rule_parts r.phrase s r.parts.items))))
    (sym c.in-Take.is) (c.take.ensures (r.parts.items ++ ps))

pub returns-in-Open : goal.returns-in-Open
returns-in-Open c = λ ps.
    let r = c.args.rule.now in
    subst (λ (s : Start). Makes c.args.marks.now (r.parts.items ++ ps) c.take_opening.result (predicted c.args.end c.args.depth ps (drop c.args.at c.args.marks.now) (Some (c.args.number, rule_parts r.phrase s r.parts.items))))
    (sym c.in-Open.is) (c.take_opening.ensures (r.parts.items ++ ps))

pub returns-in-Group : goal.returns-in-Group
returns-in-Group c = λ ps.
    let r = c.args.rule.now in
    subst (λ (s : Start). Makes c.args.marks.now (r.parts.items ++ ps) c.take_opening-in-Group.result (predicted c.args.end c.args.depth ps (drop c.args.at c.args.marks.now) (Some (c.args.number, rule_parts r.phrase s r.parts.items))))
    (sym c.in-Group.is) (c.take_opening-in-Group.ensures (r.parts.items ++ ps))
