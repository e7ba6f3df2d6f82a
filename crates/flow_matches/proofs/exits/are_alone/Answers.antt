use Rattle.std.proofs.Common.{Bool, true, List, ℕ, length, take, sym, ◌∙◌, arith}
use mathlib.Core.Path.{ap₂}
use Rattle.std.specs.List.{list_all}
use Rattle.flow_model.specs.Matches.{Match, match_of}
use Rattle.flow_pieces.specs.PieceGraphs.{has_block}
use Rattle.flow_pieces.specs.SameTrees.{is_same_bool}
use Rattle.flow_matches.specs.MatchViews.{match_at}
use Rattle.flow_matches.specs.Working.ExitViews.{chosen}
use Rattle.flow_matches.proofs.ChosenMatches.{below_at, here, chosen_more, all_more, some_fails, of_all, bools_differ, bools_agree}
use Rattle.flow_matches.proofs.exits.are_alone.Goals as goal

abbrev sets : List ℕ → List ℕ → Match → Bool
sets rows columns d = is_same_bool (has_block rows d.before) (has_block columns d.after)

pub bounds-matches-number : goal.bounds-matches-number
bounds-matches-number c = below_at (length c.args.matches.now) c.args.candidates.now c.loop-number.number-index c.requires c.loop-number-test.true

pub offset_bounds-matches-number : goal.offset_bounds-matches-number
offset_bounds-matches-number c =
    let low = below_at (length c.args.matches.now) c.args.candidates.now c.loop-number.number-index c.requires c.loop-number-test.true in
    omega (arith, low)

pub returns-then-contains : goal.returns-then-contains
returns-then-contains c =
    some_fails (sets c.args.rows.now c.args.columns.now) (match_at c.args.matches.now) c.args.candidates.now c.loop-number.number-index 0 c.loop-number-test.true (match_of c.index-matches-number.result)
    (here c.args.matches.now c.args.candidates.now c.requires c.loop-number.number-index c.loop-number-test.true c.index-matches-number.result c.index-matches-number.is)
    (sym (ap₂ is_same_bool c.contains.ensures.value c.contains-in-loop-number.ensures.value) ∙ bools_differ c.contains.result c.contains-in-loop-number.result c.if-contains.true)

pub loop-number-preserved : goal.loop-number-preserved
loop-number-preserved c =
    all_more (sets c.args.rows.now c.args.columns.now) (chosen c.args.matches.now (take c.loop-number.number-index c.args.candidates.now)) _ (match_of c.index-matches-number.result)
    (chosen_more c.args.matches.now c.args.candidates.now c.requires c.loop-number.number-index c.loop-number-test.true c.index-matches-number.result c.index-matches-number.is)
    c.loop-number.invariant
    (sym (ap₂ is_same_bool c.contains.ensures.value c.contains-in-loop-number.ensures.value) ∙ bools_agree c.contains.result c.contains-in-loop-number.result c.if-contains.false)

pub returns : goal.returns
returns c =
    of_all (λ ks. list_all (sets c.args.rows.now c.args.columns.now) (chosen c.args.matches.now ks)) c.args.candidates.now c.loop-number.number-index true c.loop-number-test.false c.loop-number.invariant
