use Rattle.std.proofs.Common.{◌≡◌, ◌<◌, refl, false, slice_get, length, ap, sym, ◌∙◌, arith}
use Rattle.std.proofs.lemmas.Option.{slice_get_within}
use Rattle.flow_model.specs.Polish.{graph_of}
use Rattle.flow_model.specs.Matches.{matches_of}
use Rattle.flow_pieces.specs.PieceGraphs.{side_before, side_after, side_graph}
use Rattle.flow_pieces.specs.Exits.{piece_exits, is_ambiguous}
use Rattle.flow_pieces.specs.SameTexts.{has_same_text}
use Rattle.flow_matches.specs.MatchViews.{match_at, pair_of}
use Rattle.flow_matches.specs.Working.ExitViews.{exit_tree, exit_trees}
use Rattle.flow_matches.proofs.PieceParts.{question_is, ambiguous_at, exit_match_there}
use Rattle.flow_matches.proofs.ExitSteps.{mapped_length, exit_has}
use Rattle.flow_matches.proofs.piece.piece_of.Goals as goal

pub returns-in-Some-clause-refused : goal.returns-in-Some-clause-refused
returns-in-Some-clause-refused c =
    let ms = c.args.matches.now in
    let p = pair_of c.args.sorts.now c.args.before.now c.args.after.now in
    let m = match_at ms c.args.number in
    let es = c.in_ok-exits.exits.items in
    let i = c.in-Some.first in
    let j = c.in-Some.second in
    let one = c.index.result.now in
    let other = c.index-in-Some.result.now in
    let shares = c.in-Some.ensures ms in
    let exits : exit_trees ms es ≡ piece_exits p (matches_of ms) m = c.in_ok-exits.ensures.exits c.args.sorts.now refl c.requires.tables in
    let text : has_same_text p (matches_of ms) m ≡ false = sym (c.in_ok-has_same_text.ensures c.args.sorts.now) ∙ c.if-branch.false in
    let own_first = ap (λ l. slice_get (exit_trees ms l) i) (sym c.deref.ensures.value) ∙ shares.exit_first in
    let own_second = ap (λ l. slice_get (exit_trees ms l) j) (sym c.deref.ensures.value) ∙ shares.exit_second in
    let first = ap (λ l. slice_get l i) (sym exits) ∙ own_first in
    let second = ap (λ l. slice_get l j) (sym exits) ∙ own_second in
    let long = mapped_length (exit_tree ms) es in
    let first_below : i < length es = omega (arith, slice_get_within (exit_trees ms es) i shares.one own_first, long) in
    let second_below : j < length es = omega (arith, slice_get_within (exit_trees ms es) j shares.other own_second, long) in (
      text,
      ambiguous_at (piece_exits p (matches_of ms) m) i j shares.one shares.other shares.in_order first second shares.share,
      record {
        first = i;
        second = j;
        one = shares.one;
        other = shares.other;
        in_order = shares.in_order;
        exit_first = first;
        exit_second = second;
        share = shares.share;
        match_first = exit_match_there ms es i one shares.one first_below c.index.ensures (c.in_ok-exits.ensures.bounds one (exit_has es i one first_below c.index.ensures)).0 own_first;
        match_second = exit_match_there ms es j other shares.other second_below c.index-in-Some.ensures (c.in_ok-exits.ensures.bounds other (exit_has es j other second_below c.index-in-Some.ensures)).0 own_second;
      },
    )

pub returns-clause-piece : goal.returns-clause-piece
returns-clause-piece c =
    let ms = c.args.matches.now in
    let p = pair_of c.args.sorts.now c.args.before.now c.args.after.now in
    let m = match_at ms c.args.number in
    let exits : exit_trees ms c.in_ok-exits.exits.items ≡ piece_exits p (matches_of ms) m = c.in_ok-exits.ensures.exits c.args.sorts.now refl c.requires.tables in
    let text : has_same_text p (matches_of ms) m ≡ false = sym (c.in_ok-has_same_text.ensures c.args.sorts.now) ∙ c.if-branch.false in
    let none : is_ambiguous (piece_exits p (matches_of ms) m) ≡ false = ap is_ambiguous (sym (ap (exit_trees ms) c.deref.ensures.value ∙ exits)) ∙ c.in-None.ensures ms in
    let graphs = question_is p (matches_of ms) m (exit_trees ms c.in_ok-exits.exits.items) (piece_exits p (matches_of ms) m) (graph_of c.in_ok-first-in-None.first.items) (graph_of c.in_ok-second-in-None.second.items) exits
    (c.in_ok-first-in-None.ensures.graph c.args.sorts.now c.args.after.now ∙ ap (λ es. side_graph (side_before p (matches_of ms) m (exit_trees ms es))) c.deref-in-None.ensures.value)
    (c.in_ok-second-in-None.ensures.graph c.args.sorts.now c.args.before.now ∙ ap (λ es. side_graph (side_after p (matches_of ms) m (exit_trees ms es))) c.deref-in-None-2.ensures.value) in
    (text, none, graphs)

pub returns-clause-whole : goal.returns-clause-whole
returns-clause-whole c = λ before after matches. (c.in_ok-first-in-None.ensures.whole before matches, c.in_ok-second-in-None.ensures.whole after matches)
