use Rattle.std.proofs.Common.{◌≡◌, ◌++◌, ◌∷◌, [], ℕ, Bool, List, refl, map, ap, ◌∙◌, sym, subst, length, take_all}
use mathlib.Core.Path.{ap₂}
use Rattle.std.specs.Prelude.{Vec}
use Rattle.std.specs.declared.alloc.Global.{Global}
use Rattle.flow_model.specs.Polish.{graph_of}
use Rattle.flow_model.specs.Matches.{Match, match_of, matches_of, equation_of}
use Rattle.flow_model.specs.declared.block_match.BlockMatch.{BlockMatch}
use Rattle.flow_model.specs.WholeMatches.{are_whole_equations}
use Rattle.flow_pieces.specs.Pieces.{is_matched_after}
use Rattle.flow_pieces.specs.PieceGraphs.{Exit, Leave as AnExit, leaves_from, has_block, known_at, assigned, side_blocks, leave_after, side_after}
use Rattle.flow_matches.specs.declared.leaves.Leave.{Leave}
use Rattle.flow_matches.specs.MatchViews.{match_at, pair_of}
use Rattle.flow_matches.specs.Tables.{AreMarks}
use Rattle.flow_matches.specs.Working.ExitViews.{exit_trees}
use Rattle.flow_matches.specs.Working.SideViews.{leave_trees, side_arrivals}
use Rattle.flow_matches.specs.Working.WholeSides.{are_whole_leaves}
use Rattle.flow_matches.proofs.WholeParts.{all_pushed, match_at_whole, forth_whole}
use Rattle.flow_matches.proofs.MappedLists.{mapped_next}
use Rattle.flow_matches.proofs.PieceParts.{match_there, matched_below, same_inside, same_arrivals}
use Rattle.flow_matches.proofs.piece.second_graph.Goals as goal

pub loop-block-preserved : goal.loop-block-preserved
loop-block-preserved c =
    record {
      leaves = mapped_next (λ k. leaves_from leave_after (λ (e : Exit). has_block e.columns k) 0 (exit_trees c.args.matches.now c.args.exits.now)) (λ (v : Vec Leave Global). leave_trees v.items)
          c.deref-block-items.result.now c.loop-block.block-index 0 c.loop-block.leaves.items c.append.new.list.items c.in_ok-leaves_after.field-0
          c.loop-block-test.true c.loop-block.invariant.leaves c.in_ok-append.ensures c.in_ok-leaves_after.ensures.trees;
      whole = λ matches. all_pushed (λ (v : Vec Leave Global). are_whole_leaves v.items) c.loop-block.leaves.items c.append.new.list.items c.in_ok-leaves_after.field-0 c.in_ok-append.ensures (c.loop-block.invariant.whole matches) (c.in_ok-leaves_after.ensures.whole matches);
    }

pub new_side-requires : goal.new_side-requires
new_side-requires c =
    matched_below (λ (m : Match). m.after) (λ (m : BlockMatch). m.after) (λ m. refl) (length c.args.blocks.now) c.deref-5.result.now c.args.matches.now c.requires.below
    (subst (λ l. AreMarks l (is_matched_after (matches_of c.args.matches.now))) (sym c.deref-5.ensures.value) c.requires.marked)

pub returns-clause-graph : goal.returns-clause-graph
returns-clause-graph c = λ sorts before.
    let ms = c.args.matches.now in
    let blocks = c.args.blocks.now in
    let test = is_matched_after (matches_of ms) in
    let own = c.index-matches-number.result in
    let at : match_at ms c.args.number ≡ match_of own = match_there ms c.args.number own c.requires.number ∙ ap match_of (sym c.index-matches-number.is) in
    let s = side_after (pair_of sorts before blocks) (matches_of ms) (match_at ms c.args.number) (exit_trees ms c.args.exits.now) in
    let marks : (l : List Bool) → l ≡ c.args.tables.now.stops_after.items → AreMarks l test = λ l e. subst (λ j. AreMarks j test) (sym e) c.requires.marked in
    let inside : c.in_ok-inside.inside.items ≡ side_blocks s =
    same_inside (graph_of blocks) c.deref.result.now test (marks c.deref.result.now c.deref.ensures.value) own.after (match_at ms c.args.number).after c.in_ok-inside.inside.items (ap (λ (d : Match). d.after) (sym at)) c.in_ok-inside.ensures in
    let arrivals =
    same_arrivals (graph_of blocks) c.deref-2.result.now test (marks c.deref-2.result.now c.deref-2.ensures.value) c.deref-3.result.now (side_blocks s) c.in_ok-arrivals.arrivals (c.deref-3.ensures.value ∙ inside) c.in_ok-arrivals.ensures in
    let given : ℕ → List AnExit = λ k. leaves_from leave_after (λ (e : Exit). has_block e.columns k) 0 (exit_trees ms c.args.exits.now) in
    let leaves : map (λ (v : Vec Leave Global). leave_trees v.items) c.loop-block.leaves.items ≡ map given (side_arrivals s) =
    c.loop-block.invariant.leaves ∙ ap (map given) (take_all c.loop-block.block-index c.deref-block-items.result.now c.loop-block-test.false ∙ c.deref-block-items.ensures.value ∙ arrivals) in
    let opening = c.in_ok-opening.ensures.trees ∙ ap₂ (λ m es. known_at m ++ assigned (map equation_of es) ∷ []) (sym at) c.deref-4.ensures.value ∙ ap (λ (m : Match). known_at (match_at ms c.args.number) ++ assigned m.forth ∷ []) (sym at) in
    c.in_ok-graph.ensures.graph s (c.in_ok-side.ensures.side s refl (marks c.deref-5.result.now c.deref-5.ensures.value) inside (c.deref-6.ensures.value ∙ arrivals) leaves opening refl)

pub returns-clause-whole : goal.returns-clause-whole
returns-clause-whole c = λ blocks matches.
    let m = c.index-matches-number.result in
    let own = match_at_whole c.args.matches.now c.args.number m c.requires.number c.index-matches-number.is matches in
    c.in_ok-graph.ensures.whole blocks (c.in_ok-side.ensures.whole (c.in_ok-opening.ensures.whole own (ap are_whole_equations c.deref-4.ensures.value ∙ forth_whole m own)) (c.loop-block.invariant.whole matches))
