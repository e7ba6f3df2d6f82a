use Rattle.std.proofs.Common.{◌≡◌, ◌++◌, map, ap, ◌∙◌, subst}
use Rattle.std.proofs.lemmas.List.{take_all}
use Rattle.line_format.specs.Lines.{line_of, with_feed}
use Rattle.certificate.specs.declared.entry.Entry.TheVariants.{PairLine}
use Rattle.certificate.specs.PairParts.{PairParts}
use Rattle.certificate.specs.Texts.{entry_words}
use Rattle.certificate.specs.Working.Writings.{entry_lines}
use Rattle.certificate.proofs.Lines.{more_entries}
use Rattle.certificate.proofs.writing.put_pairs.Goals as goal

pub loop-pair-preserved : goal.loop-pair-preserved
loop-pair-preserved c =
    more_entries PairLine c.args.out.now.items c.loop-pair.out.items c.put_pair.new.out.items c.args.pairs.now c.loop-pair.pair-index c.pair-item.result c.loop-pair-test.true c.loop-pair.invariant
    (subst (λ (p : PairParts). c.put_pair.new.out.items ≡ c.loop-pair.out.items ++ with_feed (line_of (entry_words (PairLine p)))) c.pair-item.is c.in_ok-put_pair.ensures)

pub returns : goal.returns
returns c = c.loop-pair.invariant ∙ ap (λ l. c.args.out.now.items ++ entry_lines (map PairLine l)) (take_all c.loop-pair.pair-index c.args.pairs.now c.loop-pair-test.false)
