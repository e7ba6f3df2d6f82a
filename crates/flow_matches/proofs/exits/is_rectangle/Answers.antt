use Rattle.std.proofs.Common.{true, ℕ, ◌&&◌, take, get_or, sym, ap, ◌∙◌}
use Rattle.std.specs.List.{list_all}
use Rattle.std.proofs.lemmas.Bool.{and_from, and_left}
use Rattle.std.proofs.lemmas.List.Folds.{list_all_at, list_all_more}
use Rattle.flow_model.specs.Matches.{match_of}
use Rattle.flow_pieces.specs.PieceGraphs.{has_block}
use Rattle.flow_pieces.specs.SameTrees.{is_same_bool}
use Rattle.flow_matches.specs.Working.ExitViews.{chosen, noted_at, has_like_by}
use Rattle.flow_matches.proofs.ChosenMatches.{of_all}
use Rattle.flow_matches.proofs.exits.is_rectangle.Goals as goal

pub returns-then-not-has_row : goal.returns-then-not-has_row
returns-then-not-has_row c =
    sym (and_left (list_all (λ (k : ℕ). list_all (has_like_by (noted_at c.args.tables.now c.args.variables) (chosen c.args.matches.now c.args.candidates.now) (match_of c.args.own.now) k) c.args.columns.now) c.args.rows.now) (list_all (λ d. is_same_bool (has_block c.args.rows.now d.before) (has_block c.args.columns.now d.after)) (chosen c.args.matches.now c.args.candidates.now)) (list_all_at (λ (k : ℕ). list_all (has_like_by (noted_at c.args.tables.now c.args.variables) (chosen c.args.matches.now c.args.candidates.now) (match_of c.args.own.now) k) c.args.columns.now) c.args.rows.now c.loop-row.row-index 0 c.loop-row-test.true (sym c.has_row.ensures ∙ c.if-not-has_row.true)))

pub loop-row-preserved : goal.loop-row-preserved
loop-row-preserved c =
    list_all_more (λ (k : ℕ). list_all (has_like_by (noted_at c.args.tables.now c.args.variables) (chosen c.args.matches.now c.args.candidates.now) (match_of c.args.own.now) k) c.args.columns.now) c.args.rows.now c.loop-row.row-index 0 c.loop-row-test.true
    ∙ and_from (list_all (λ (k : ℕ). list_all (has_like_by (noted_at c.args.tables.now c.args.variables) (chosen c.args.matches.now c.args.candidates.now) (match_of c.args.own.now) k) c.args.columns.now) (take c.loop-row.row-index c.args.rows.now)) ((λ (k : ℕ). list_all (has_like_by (noted_at c.args.tables.now c.args.variables) (chosen c.args.matches.now c.args.candidates.now) (match_of c.args.own.now) k) c.args.columns.now) (get_or c.args.rows.now c.loop-row.row-index 0)) c.loop-row.invariant (sym c.has_row.ensures ∙ c.if-not-has_row.false)

pub returns : goal.returns
returns c =
    c.are_alone.ensures ∙ ap (λ b. b && (list_all (λ d. is_same_bool (has_block c.args.rows.now d.before) (has_block c.args.columns.now d.after)) (chosen c.args.matches.now c.args.candidates.now))) (of_all (list_all (λ (k : ℕ). list_all (has_like_by (noted_at c.args.tables.now c.args.variables) (chosen c.args.matches.now c.args.candidates.now) (match_of c.args.own.now) k) c.args.columns.now)) c.args.rows.now c.loop-row.row-index true c.loop-row-test.false c.loop-row.invariant)
