-- Both sides are the same if a walk has processed all its entries.
use Rattle.std.proofs.Common.{suc, List, length, sym, ◌∙◌, subst, arith}
use Rattle.std.proofs.lemmas.List.{length-map}
use Rattle.std.proofs.lemmas.Option.{slice_get_within}
use Rattle.kat_model.specs.Trees.{Term}
use Rattle.kat_model.specs.Problems.{ProblemParts}
use Rattle.kat_model.specs.Relations.{Same}
use Rattle.kat_model.specs.Closed.{closed}
use Rattle.kat_model.specs.Degrees.{long_hyps, with_hyps, AreSplit}
use Rattle.kat_model.proofs.Acceptance.{set_accepts-single}
use Rattle.kat_model.proofs.AllowedPaths.{kept_allowed}
use Rattle.kat_model.proofs.AllowedStrings.{allowed_first}
use Rattle.kat_model.proofs.Sameness.{AcceptAlike, alike_relates, closed_relates}
use Rattle.kat_model.proofs.Splits.{split_keeps}
use Rattle.term_nodes.specs.NodeLists.{NodeParts}
use Rattle.walk_under.specs.TestedWalks.{TestedEntry, IsTestedWalk}
use Rattle.walk_under.specs.Working.IdEntries.{entry_of, entries_of}
use Rattle.walk_under.specs.Working.Counting.{with_counted, HasEnded}
use Rattle.walk_under.specs.declared.walk.TestedWorklist.{TestedWorklist}
use Rattle.walk_under.proofs.WalkSteps.{first_entry}
use Rattle.walk_under.proofs.Levels.{strings_agree}
use Rattle.walk_under.proofs.CountedWalks.{counted_split, same_fewer}

module _ (whole : ProblemParts) (shorts longs : List Term) (split : AreSplit whole.hyps shorts longs) (es : List TestedEntry) (walk : IsTestedWalk shorts (with_hyps whole longs) es (length es)) where
  -- the closed sides accept the same allowed strings
  ended_alike : AcceptAlike shorts whole.tests whole.actions (closed (with_hyps whole longs)).left (closed (with_hyps whole longs)).right
  ended_alike atom ms wide are allowed =
      sym (set_accepts-single (closed (with_hyps whole longs)).left atom ms)
      ∙ strings_agree shorts (with_hyps whole longs) es (suc (length ms)) (λ k e at l. walk.taken k e (slice_get_within es k e at) at) ms atom 0 (first_entry (with_hyps whole longs) walk.start) walk.first
      (walk.everywhere atom wide (allowed_first shorts atom ms allowed)) (omega arith) wide are allowed
      ∙ set_accepts-single (closed (with_hyps whole longs)).right atom ms

  pub ended_same : Same whole
  ended_same t is_table keeps i j li lj =
      let kept = (split_keeps whole.hyps shorts longs split t).0 keeps in
      let sides = closed (with_hyps whole longs) in
      closed_relates whole.actions longs whole.left whole.right t i j kept.1
      (alike_relates whole.tests whole.actions t is_table shorts (kept_allowed t shorts kept.0) sides.left sides.right i j li lj ended_alike)

-- a walk that counts some of the short hypotheses shows it for the whole problem
pub ended_alike_all : (q : ProblemParts) (store : NodeParts) (w : TestedWorklist) → HasEnded q store w → Same q
ended_alike_all q store w e =
    let longs = with_hyps q (long_hyps q) in
    let es = entries_of store w.diagrams w.listing.entries.items in
    same_fewer q e.counted e.fewer
    (ended_same (with_counted q e.counted) e.counted (long_hyps q) (counted_split q e.counted e.fewer) es
    (subst (IsTestedWalk e.counted longs es) (sym (length-map w.listing.entries.items (entry_of store w.diagrams))) e.under_way.walk))
