use Rattle.std.proofs.Common.{true, take, get_or, sym, ◌∙◌}
use Rattle.std.specs.List.{list_all}
use Rattle.std.proofs.lemmas.Bool.{and_from}
use Rattle.std.proofs.lemmas.List.Folds.{list_all_at, list_all_more}
use Rattle.flow_model.specs.Matches.{match_of}
use Rattle.flow_matches.specs.Working.ExitViews.{chosen, noted_at, has_like_by}
use Rattle.flow_matches.proofs.ChosenMatches.{of_all}
use Rattle.flow_matches.proofs.exits.has_row.Goals as goal

pub returns-then-not-has_like : goal.returns-then-not-has_like
returns-then-not-has_like c = sym (list_all_at (has_like_by (noted_at c.args.tables.now c.args.variables) (chosen c.args.matches.now c.args.candidates.now) (match_of c.args.own.now) c.args.row) c.args.columns.now c.loop-column.column-index 0 c.loop-column-test.true (sym c.has_like.ensures ∙ c.if-not-has_like.true))

pub loop-column-preserved : goal.loop-column-preserved
loop-column-preserved c =
    list_all_more (has_like_by (noted_at c.args.tables.now c.args.variables) (chosen c.args.matches.now c.args.candidates.now) (match_of c.args.own.now) c.args.row) c.args.columns.now c.loop-column.column-index 0 c.loop-column-test.true
    ∙ and_from (list_all (has_like_by (noted_at c.args.tables.now c.args.variables) (chosen c.args.matches.now c.args.candidates.now) (match_of c.args.own.now) c.args.row) (take c.loop-column.column-index c.args.columns.now)) ((has_like_by (noted_at c.args.tables.now c.args.variables) (chosen c.args.matches.now c.args.candidates.now) (match_of c.args.own.now) c.args.row) (get_or c.args.columns.now c.loop-column.column-index 0)) c.loop-column.invariant (sym c.has_like.ensures ∙ c.if-not-has_like.false)

pub returns : goal.returns
returns c = of_all (list_all (has_like_by (noted_at c.args.tables.now c.args.variables) (chosen c.args.matches.now c.args.candidates.now) (match_of c.args.own.now) c.args.row)) c.args.columns.now c.loop-column.column-index true c.loop-column-test.false c.loop-column.invariant
