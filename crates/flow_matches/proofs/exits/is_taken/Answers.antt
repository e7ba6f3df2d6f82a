use Rattle.std.proofs.Common.{Bool, false, ◌+◌, [], ◌∷◌, ◌++◌, take, sym, ap, ◌∙◌}
use Rattle.std.specs.List.{list_any}
use Rattle.std.proofs.lemmas.Bool.{and_from, and_left, and_right}
use Rattle.std.proofs.lemmas.List.{map_more}
use Rattle.flow_model.specs.Matches.{match_of}
use Rattle.flow_model.specs.declared.block_match.BlockMatch.{BlockMatch}
use Rattle.flow_pieces.specs.PieceGraphs.{Exit, has_block}
use Rattle.flow_pieces.specs.Exits.{has_match}
use Rattle.flow_matches.specs.Working.ExitViews.{exit_tree, exit_trees}
use Rattle.flow_matches.proofs.ChosenMatches.{none_more, some_passes, of_all}
use Rattle.flow_matches.proofs.exits.is_taken.Goals.{else-contains-via-then-contains+else-contains-2, else-contains-via-else-contains}
use Rattle.flow_matches.proofs.exits.is_taken.Goals as goal

abbrev pairs : BlockMatch → Exit → Bool
pairs one e = has_match e (match_of one)

pub returns-then-contains-2 : goal.returns-then-contains-2
returns-then-contains-2 c = λ matches.
    some_passes (pairs c.args.one.now) (exit_tree matches) c.args.exits.now c.loop-exit.exit-index c.exit-item.result c.loop-exit-test.true (exit_tree matches c.exit-item.result) (ap (exit_tree matches) (sym c.exit-item.is))
    (and_from (has_block c.exit-item.result.rows.items c.args.one.now.before) (has_block c.exit-item.result.columns.items c.args.one.now.after)
    (ap (λ ks. has_block ks c.args.one.now.before) (sym c.deref.ensures.value) ∙ sym c.contains.ensures.value ∙ c.if-contains.true)
    (ap (λ ks. has_block ks c.args.one.now.after) (sym c.deref-then-contains.ensures.value) ∙ sym c.contains-then-contains.ensures.value ∙ c.if-contains-2.true))

pub loop-exit-preserved : goal.loop-exit-preserved
loop-exit-preserved c = λ matches.
    none_more (pairs c.args.one.now) (exit_trees matches (take c.loop-exit.exit-index c.args.exits.now)) (exit_trees matches (take (c.loop-exit.exit-index + 1) c.args.exits.now)) (exit_tree matches c.exit-item.result)
    (map_more (exit_tree matches) c.args.exits.now c.loop-exit.exit-index c.exit-item.result c.loop-exit-test.true ∙ ap (λ e. exit_trees matches (take c.loop-exit.exit-index c.args.exits.now) ++ exit_tree matches e ∷ []) (sym c.exit-item.is))
    (c.loop-exit.invariant matches)
    (elim c.else-contains.branch [
      | else-contains-via-then-contains+else-contains-2 w ↦
          and_right (has_block c.exit-item.result.rows.items c.args.one.now.before) (has_block c.exit-item.result.columns.items c.args.one.now.after)
          (ap (λ ks. has_block ks c.args.one.now.after) (sym w.deref-then-contains.ensures.value) ∙ sym w.contains-then-contains.ensures.value ∙ w.if-contains-2.false)
      | else-contains-via-else-contains w ↦
          and_left (has_block c.exit-item.result.rows.items c.args.one.now.before) (has_block c.exit-item.result.columns.items c.args.one.now.after)
          (ap (λ ks. has_block ks c.args.one.now.before) (sym c.deref.ensures.value) ∙ sym c.contains.ensures.value ∙ w.if-contains.false)
    ])

pub returns : goal.returns
returns c = λ matches. of_all (λ es. list_any (pairs c.args.one.now) (exit_trees matches es)) c.args.exits.now c.loop-exit.exit-index false c.loop-exit-test.false (c.loop-exit.invariant matches)
