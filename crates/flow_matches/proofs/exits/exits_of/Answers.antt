use Rattle.std.proofs.Common.{[], ◌∷◌, ◌+◌, ◌++◌, length, drop, sym, ap, ◌∙◌, arith}
use Rattle.std.specs.List.{list_any}
use Rattle.std.proofs.lemmas.List.{map_push, at_drop_all}
use Rattle.flow_model.specs.Matches.{match_of}
use Rattle.flow_pieces.specs.Exits.{exit_of, has_match, exits_from}
use Rattle.flow_matches.specs.MatchViews.{pair_of}
use Rattle.flow_matches.specs.Working.ExitViews.{exit_tree, exit_trees, chosen}
use Rattle.flow_matches.proofs.ChosenMatches.{below_at, here, chosen_rest, exits_pushed}
use Rattle.flow_matches.proofs.PieceExits.{exit_taken, exit_added}
use Rattle.flow_matches.proofs.exits.exits_of.Goals.{then-not-is_taken+in_ok-exit_of+in_ok-push, else-not-is_taken}
use Rattle.flow_matches.proofs.exits.exits_of.Goals as goal

pub bounds-matches-number : goal.bounds-matches-number
bounds-matches-number c = below_at (length c.args.matches.now) c.args.candidates.now c.loop-number.number-index c.requires c.loop-number-test.true

pub offset_bounds-matches-number : goal.offset_bounds-matches-number
offset_bounds-matches-number c =
    let low = below_at (length c.args.matches.now) c.args.candidates.now c.loop-number.number-index c.requires c.loop-number-test.true in
    omega (arith, low)

pub exit_of-requires-clause-number : goal.exit_of-requires-clause-number
exit_of-requires-clause-number c = below_at (length c.args.matches.now) c.args.candidates.now c.loop-number.number-index c.requires c.loop-number-test.true

pub loop-number-preserved : goal.loop-number-preserved
loop-number-preserved c =
    elim c.if-not-is_taken.branch [
      | then-not-is_taken+in_ok-exit_of+in_ok-push w ↦ rw w.exits-is (record {
        bounds = exits_pushed (length c.args.matches.now) c.args.variables c.loop-number.exits.items w.push.new.self.items w.in_ok-exit_of.field-0 c.loop-number.invariant.bounds w.in_ok-exit_of.ensures.bounds w.in_ok-push.ensures.items;
        exits = λ sorts long before after are.
            exit_added (pair_of sorts before after) (chosen c.args.matches.now c.args.candidates.now) (match_of c.index-matches-number.result) (chosen c.args.matches.now (drop c.loop-number.number-index c.args.candidates.now)) (chosen c.args.matches.now (drop (c.loop-number.number-index + 1) c.args.candidates.now)) (chosen_rest c.args.matches.now c.args.candidates.now c.requires c.loop-number.number-index c.loop-number-test.true c.index-matches-number.result c.index-matches-number.is) (exit_trees c.args.matches.now c.loop-number.exits.items) (exits_from (pair_of sorts before after) (chosen c.args.matches.now c.args.candidates.now) (chosen c.args.matches.now c.args.candidates.now) []) (c.loop-number.invariant.exits sorts long before after are)
            (sym (c.is_taken.ensures c.args.matches.now ∙ ap (λ es. list_any (λ e. has_match e (match_of c.index-matches-number.result)) (exit_trees c.args.matches.now es)) c.deref.ensures.value) ∙ w.if-not-is_taken.true) (exit_trees c.args.matches.now w.push.new.self.items)
            (ap (exit_trees c.args.matches.now) w.in_ok-push.ensures.items
            ∙ map_push (exit_tree c.args.matches.now) c.loop-number.exits.items w.in_ok-exit_of.field-0
            ∙ ap (λ e. (exit_trees c.args.matches.now c.loop-number.exits.items) ++ e ∷ []) (w.in_ok-exit_of.ensures.exit sorts long before after are ∙ ap (exit_of (pair_of sorts before after) (chosen c.args.matches.now c.args.candidates.now)) (here c.args.matches.now c.args.candidates.now c.requires c.loop-number.number-index c.loop-number-test.true c.index-matches-number.result c.index-matches-number.is)));
      })
      | else-not-is_taken w ↦ rw w.exits-is (record {
        bounds = c.loop-number.invariant.bounds;
        exits = λ sorts long before after are.
            exit_taken (pair_of sorts before after) (chosen c.args.matches.now c.args.candidates.now) (match_of c.index-matches-number.result) (chosen c.args.matches.now (drop c.loop-number.number-index c.args.candidates.now)) (chosen c.args.matches.now (drop (c.loop-number.number-index + 1) c.args.candidates.now)) (chosen_rest c.args.matches.now c.args.candidates.now c.requires c.loop-number.number-index c.loop-number-test.true c.index-matches-number.result c.index-matches-number.is) (exit_trees c.args.matches.now c.loop-number.exits.items) (exits_from (pair_of sorts before after) (chosen c.args.matches.now c.args.candidates.now) (chosen c.args.matches.now c.args.candidates.now) []) (c.loop-number.invariant.exits sorts long before after are)
            (sym (c.is_taken.ensures c.args.matches.now ∙ ap (λ es. list_any (λ e. has_match e (match_of c.index-matches-number.result)) (exit_trees c.args.matches.now es)) c.deref.ensures.value) ∙ w.if-not-is_taken.false);
      })
    ]

pub returns-clause-exits : goal.returns-clause-exits
returns-clause-exits c = λ sorts long before after are.
    sym (at_drop_all (λ ks. exits_from (pair_of sorts before after) (chosen c.args.matches.now c.args.candidates.now) (chosen c.args.matches.now ks) (exit_trees c.args.matches.now c.loop-number.exits.items)) c.args.candidates.now c.loop-number.number-index c.loop-number-test.false) ∙ c.loop-number.invariant.exits sorts long before after are
