use Rattle.std.proofs.Common.{◌≡◌, false, List, [], length, slice_index_or, sym, ap, ◌∙◌, subst, Vec}
use Rattle.std.specs.declared.alloc.Global.{Global}
use Rattle.std.proofs.lemmas.Result.{IfOk-weaker}
use Rattle.flow_model.specs.declared.sort.Sort.{Sort}
use Rattle.flow_model.specs.declared.graph.Block.{Block}
use Rattle.flow_model.specs.Polish.{graph_of}
use Rattle.flow_model.specs.Matches.{Match, matches_of}
use Rattle.flow_places.specs.Walks.{blocks_from}
use Rattle.flow_pieces.specs.Pieces.{is_matched_before, is_matched_after}
use Rattle.flow_pieces.specs.PieceGraphs.{arrivals_of, has_block}
use Rattle.flow_pieces.specs.Exits.{exits_from, piece_exits}
use Rattle.flow_matches.specs.declared.exits.Exit.{Exit}
use Rattle.flow_matches.specs.MatchViews.{match_at, pair_of}
use Rattle.flow_matches.specs.Tables.{AreMarks, AreTables}
use Rattle.flow_matches.specs.Working.ExitViews.{exit_trees, chosen}
use Rattle.flow_matches.proofs.ChosenMatches.{match_is}
use Rattle.flow_matches.proofs.PieceExits.{arrivals_marked, candidates_are}
use Rattle.flow_matches.proofs.exits.piece_exits.Goals as goal

pub returns-clause-exits : goal.returns-clause-exits
returns-clause-exits c =
    IfOk-weaker c.exits_of.result
    (λ (exits : Vec Exit Global). (sorts : List Sort) → length sorts ≡ c.args.variables → (before after : List Block) → AreTables c.args.tables.now sorts before after c.args.matches.now → exit_trees c.args.matches.now exits.items ≡ exits_from (pair_of sorts before after) (chosen c.args.matches.now c.deref-3.result.now) (chosen c.args.matches.now c.deref-3.result.now) [])
    (λ (exits : Vec Exit Global). (sorts : List Sort) → length sorts ≡ c.args.variables → AreTables c.args.tables.now sorts c.args.before.now c.args.after.now c.args.matches.now → exit_trees c.args.matches.now exits.items ≡ piece_exits (pair_of sorts c.args.before.now c.args.after.now) (matches_of c.args.matches.now) (match_at c.args.matches.now c.args.number))
    (λ exits found sorts long are.
    found sorts long c.args.before.now c.args.after.now are
    ∙ ap (λ cs. exits_from (pair_of sorts c.args.before.now c.args.after.now) cs cs [])
    (ap (chosen c.args.matches.now) c.deref-3.ensures.value ∙ c.in_ok-candidates.ensures.matches
    ∙ candidates_are (pair_of sorts c.args.before.now c.args.after.now) (matches_of c.args.matches.now) (match_at c.args.matches.now c.args.number) c.in_ok-first.first.marks.items c.in_ok-second.second.marks.items
    (subst (λ b. AreMarks c.in_ok-first.first.marks.items (has_block (arrivals_of (graph_of c.args.before.now) (is_matched_before (matches_of c.args.matches.now)) (blocks_from (graph_of c.args.before.now) (is_matched_before (matches_of c.args.matches.now)) b)))) (ap (λ (m : Match). m.before) (sym (match_is c.args.matches.now c.args.number c.index-matches-number.result c.requires.number c.index-matches-number.is)))
    (arrivals_marked c.in_ok-first.first (graph_of c.args.before.now) c.deref.result.now (is_matched_before (matches_of c.args.matches.now)) c.index-matches-number.result.before (λ k. ap (λ l. slice_index_or l k false) c.deref.ensures.value ∙ are.marked.before k) c.in_ok-first.ensures))
    (subst (λ b. AreMarks c.in_ok-second.second.marks.items (has_block (arrivals_of (graph_of c.args.after.now) (is_matched_after (matches_of c.args.matches.now)) (blocks_from (graph_of c.args.after.now) (is_matched_after (matches_of c.args.matches.now)) b)))) (ap (λ (m : Match). m.after) (sym (match_is c.args.matches.now c.args.number c.index-matches-number.result c.requires.number c.index-matches-number.is)))
    (arrivals_marked c.in_ok-second.second (graph_of c.args.after.now) c.deref-2.result.now (is_matched_after (matches_of c.args.matches.now)) c.index-matches-number.result.after (λ k. ap (λ l. slice_index_or l k false) c.deref-2.ensures.value ∙ are.marked.after k) c.in_ok-second.ensures))))
    c.exits_of.ensures.exits
