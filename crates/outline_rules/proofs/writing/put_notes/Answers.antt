use Rattle.std.proofs.Common.{[], ◌∷◌, ◌++◌, List, ℕ, get_or, map, codes, sym, ap, ◌∙◌}
use Rattle.std.specs.Fmt.{decimal}
use Rattle.line_format.specs.Lines.{with_feed}
use Rattle.line_format.proofs.LineForms.{line_of-cons}
use Rattle.outline_rules.specs.declared.line.NoteLine.TheVariants.{Note}
use Rattle.outline_rules.proofs.Written.{lines_more, lines_done}
use Rattle.outline_rules.proofs.writing.put_notes.Goals as goal

pub loop-node-preserved : goal.loop-node-preserved
loop-node-preserved c =
    let number : ℕ = get_or c.args.notes.now c.loop-node.node-index 0 in
    lines_more Note c.args.out.now.items c.loop-node.out.items c.args.notes.now c.loop-node.node-index c.loop-node.invariant
    c.put_form.new.out.items 0 c.loop-node-test.true
    (c.in_ok-put_form.ensures ∙ ap (λ (l : List ℕ). c.loop-node.out.items ++ with_feed l) (sym (line_of-cons (codes "C") (map decimal (number ∷ [])))))

pub returns : goal.returns
returns c = lines_done Note c.args.out.now.items c.loop-node.out.items c.args.notes.now c.loop-node.node-index c.loop-node.invariant c.loop-node-test.false
