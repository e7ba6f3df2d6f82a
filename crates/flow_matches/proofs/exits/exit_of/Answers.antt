use Rattle.std.proofs.Common.{◌≡◌, [], ◌∷◌, replicate, sym, ap, ◌∙◌, rules}
use Rattle.flow_model.specs.Matches.{Match, match_of}
use Rattle.flow_pieces.specs.Exits.{rows_with, columns_with}
use Rattle.flow_matches.specs.MatchViews.{match_at, pair_of}
use Rattle.flow_matches.specs.Working.ExitViews.{chosen, noted_at}
use Rattle.flow_matches.proofs.ChosenMatches.{match_is}
use Rattle.flow_matches.proofs.PieceExits.{noted_is, is_full, shared_exit, single_exit, exit_of_parts}
use Rattle.flow_matches.proofs.exits.exit_of.Goals as goal

pub returns-then-is_rectangle-clause-exit : goal.returns-then-is_rectangle-clause-exit
returns-then-is_rectangle-clause-exit c = λ sorts long before after are.
    shared_exit (chosen c.args.matches.now c.args.candidates.now) (match_at c.args.matches.now c.args.number) (pair_of sorts before after) (noted_at c.args.tables.now c.args.variables) c.in_ok-rows.rows.items c.in_ok-columns.columns.items c.in_ok-live.live.items
    (noted_is c.args.tables.now sorts c.args.variables before after c.args.matches.now long are)
    (c.in_ok-rows.ensures ∙ ap (rows_with (chosen c.args.matches.now c.args.candidates.now)) (sym (match_is c.args.matches.now c.args.number c.index-matches-number.result c.requires.number c.index-matches-number.is))) (c.in_ok-columns.ensures ∙ ap (columns_with (chosen c.args.matches.now c.args.candidates.now)) (sym (match_is c.args.matches.now c.args.number c.index-matches-number.result c.requires.number c.index-matches-number.is)))
    (c.in_ok-live.ensures.live ∙ ap (λ (m : Match). noted_at c.args.tables.now c.args.variables m.after) (sym (match_is c.args.matches.now c.args.number c.index-matches-number.result c.requires.number c.index-matches-number.is)))
    c.is_rectangle.result
    (c.is_rectangle.ensures
    ∙ ap (λ ks. is_full (chosen c.args.matches.now c.args.candidates.now) (match_of c.index-matches-number.result) (noted_at c.args.tables.now c.args.variables) ks c.deref-2.result.now) c.deref.ensures.value
    ∙ ap (λ ks. is_full (chosen c.args.matches.now c.args.candidates.now) (match_of c.index-matches-number.result) (noted_at c.args.tables.now c.args.variables) c.in_ok-rows.rows.items ks) c.deref-2.ensures.value
    ∙ ap (λ m. is_full (chosen c.args.matches.now c.args.candidates.now) m (noted_at c.args.tables.now c.args.variables) c.in_ok-rows.rows.items c.in_ok-columns.columns.items) (sym (match_is c.args.matches.now c.args.number c.index-matches-number.result c.requires.number c.index-matches-number.is)))
    c.if-is_rectangle.true

pub returns-clause-exit : goal.returns-clause-exit
returns-clause-exit c = λ sorts long before after are.
    let rows : c.in_ok-vec.field-0.items ≡ replicate 1 c.index-matches-number.result.before = c.in_ok-vec.ensures.items_if_clones_equal (λ y e. search rules) in
    let columns : c.in_ok-vec-2.field-0.items ≡ replicate 1 c.index-matches-number.result.after = c.in_ok-vec-2.ensures.items_if_clones_equal (λ y e. search rules) in
    exit_of_parts (match_at c.args.matches.now c.args.number) c.in_ok-live.live.items c.in_ok-vec.field-0.items c.in_ok-vec-2.field-0.items
    (rows ∙ ap (λ (m : Match). m.before ∷ []) (sym (match_is c.args.matches.now c.args.number c.index-matches-number.result c.requires.number c.index-matches-number.is))) (columns ∙ ap (λ (m : Match). m.after ∷ []) (sym (match_is c.args.matches.now c.args.number c.index-matches-number.result c.requires.number c.index-matches-number.is)))
    ∙ single_exit (chosen c.args.matches.now c.args.candidates.now) (match_at c.args.matches.now c.args.number) (pair_of sorts before after) (noted_at c.args.tables.now c.args.variables) c.in_ok-rows.rows.items c.in_ok-columns.columns.items c.in_ok-live.live.items
    (noted_is c.args.tables.now sorts c.args.variables before after c.args.matches.now long are)
    (c.in_ok-rows.ensures ∙ ap (rows_with (chosen c.args.matches.now c.args.candidates.now)) (sym (match_is c.args.matches.now c.args.number c.index-matches-number.result c.requires.number c.index-matches-number.is))) (c.in_ok-columns.ensures ∙ ap (columns_with (chosen c.args.matches.now c.args.candidates.now)) (sym (match_is c.args.matches.now c.args.number c.index-matches-number.result c.requires.number c.index-matches-number.is)))
    (c.in_ok-live.ensures.live ∙ ap (λ (m : Match). noted_at c.args.tables.now c.args.variables m.after) (sym (match_is c.args.matches.now c.args.number c.index-matches-number.result c.requires.number c.index-matches-number.is)))
    c.is_rectangle.result
    (c.is_rectangle.ensures
    ∙ ap (λ ks. is_full (chosen c.args.matches.now c.args.candidates.now) (match_of c.index-matches-number.result) (noted_at c.args.tables.now c.args.variables) ks c.deref-2.result.now) c.deref.ensures.value
    ∙ ap (λ ks. is_full (chosen c.args.matches.now c.args.candidates.now) (match_of c.index-matches-number.result) (noted_at c.args.tables.now c.args.variables) c.in_ok-rows.rows.items ks) c.deref-2.ensures.value
    ∙ ap (λ m. is_full (chosen c.args.matches.now c.args.candidates.now) m (noted_at c.args.tables.now c.args.variables) c.in_ok-rows.rows.items c.in_ok-columns.columns.items) (sym (match_is c.args.matches.now c.args.number c.index-matches-number.result c.requires.number c.index-matches-number.is)))
    c.if-is_rectangle.false
