use Rattle.std.proofs.Common.{false, take, get_or, sym, ap, ◌∙◌, arith}
use Rattle.std.specs.List.{list_any}
use Rattle.std.proofs.lemmas.Bool.{or_from}
use Rattle.std.proofs.lemmas.List.Folds.{list_any_at, list_any_more}
use Rattle.flow_pieces.specs.PieceGraphs.{has_block}
use Rattle.flow_matches.proofs.ChosenMatches.{of_all}
use Rattle.flow_matches.proofs.exits.have_shared_column.Goals as goal

pub returns-then-has_block : goal.returns-then-has_block
returns-then-has_block c = λ matches.
    sym (list_any_at (λ k. has_block c.args.other.now.columns.items k) c.args.one.now.columns.items c.loop-column.column-index 0 (let long = c.args.one.now.columns.ok.0 in omega (arith, long, c.loop-column-test.true))
    (ap (λ l. has_block c.args.other.now.columns.items (get_or l c.loop-column.column-index 0)) (sym c.deref-column-items.ensures.value)
    ∙ ap (λ ks. has_block ks (get_or c.deref-column-items.result.now c.loop-column.column-index 0)) (sym c.deref.ensures.value) ∙ sym c.has_block.ensures ∙ c.if-has_block.true))

pub loop-column-preserved : goal.loop-column-preserved
loop-column-preserved c =
    list_any_more (λ k. has_block c.args.other.now.columns.items k) c.args.one.now.columns.items c.loop-column.column-index 0 (let long = c.args.one.now.columns.ok.0 in omega (arith, long, c.loop-column-test.true))
    ∙ or_from (list_any (λ k. has_block c.args.other.now.columns.items k) (take c.loop-column.column-index c.args.one.now.columns.items)) (has_block c.args.other.now.columns.items (get_or c.args.one.now.columns.items c.loop-column.column-index 0)) c.loop-column.invariant
    (ap (λ l. has_block c.args.other.now.columns.items (get_or l c.loop-column.column-index 0)) (sym c.deref-column-items.ensures.value)
    ∙ ap (λ ks. has_block ks (get_or c.deref-column-items.result.now c.loop-column.column-index 0)) (sym c.deref.ensures.value) ∙ sym c.has_block.ensures ∙ c.if-has_block.false)

pub returns : goal.returns
returns c = λ matches.
    of_all (list_any (λ k. has_block c.args.other.now.columns.items k)) c.args.one.now.columns.items c.loop-column.column-index false (let long = c.args.one.now.columns.ok.0 in omega (arith, long, c.loop-column-test.false)) c.loop-column.invariant
