-- What a walk under the hypotheses that count gives.
use Rattle.std.specs.Prelude.{◌≡◌, ◌<◌, Bool, List, ◌++◌, length, slice_get, slice_index_or, false, Some, IsTrue, ℕ}
use Rattle.kat_model.specs.Trees.{Term, kat_tree}
use Rattle.kat_model.specs.Members.{Has, IsSubset}
use Rattle.kat_model.specs.Problems.{ProblemParts}
use Rattle.kat_model.specs.Strings.{GuardedString}
use Rattle.kat_model.specs.Degrees.{short_hyps, long_hyps, with_hyps}
use Rattle.term_nodes.specs.NodeLists.{NodeParts}
use Rattle.partial_derivs.specs.Tables.{AreRight}
use Rattle.certificate.specs.Decisions.{IsShortest}
use Rattle.walk_under.specs.Counting.{uncounted}
use Rattle.walk_under.specs.declared.counting.ShortHyp.{ShortHyp}
use Rattle.walk_under.specs.Working.Walking.{walk_context, IsUnderWay}
use Rattle.walk_under.specs.declared.deciding.Outcome.{Outcome}
use Rattle.walk_under.specs.declared.deciding.Outcome.TheVariants.{Alike, Refuted}
use Rattle.walk_under.specs.declared.deciding.TurnEnd.{TurnEnd}
use Rattle.walk_under.specs.declared.deciding.TurnEnd.TheVariants.{Again, Alike as TurnAlike, Refuted as TurnRefuted}
use Rattle.walk_under.specs.declared.walk.TestedWorklist.{TestedWorklist}

-- the problem with these short hypotheses and all long ones
abbrev pub with_counted : ProblemParts → List Term → ProblemParts
with_counted q counted = with_hyps q (counted ++ long_hyps q)

-- The terms are short hypotheses of the problem, and each hypothesis that counts is among them.
pub record IsCountedList (q : ProblemParts) (hyps : List ShortHyp) (counts : List Bool) (counted : List Term) : Type 0 where
  pub fewer : IsSubset counted (short_hyps q)
  pub there : (i : ℕ) (h : ShortHyp) → slice_get hyps i ≡ Some h → IsTrue (slice_index_or counts i false) → Has counted (kat_tree h.hyp)

-- the string is a shortest one of the problem with the short hypotheses that count
pub record IsFoundUnder (q : ProblemParts) (hyps : List ShortHyp) (counts : List Bool) (x : GuardedString) : Type 0 where
  pub counted : List Term
  pub list : IsCountedList q hyps counts counted
  pub shortest : IsShortest (with_counted q counted) x

-- a walk under short hypotheses of the problem has processed all its pairs
pub record HasEnded (q : ProblemParts) (store : NodeParts) (w : TestedWorklist) : Type 0 where
  pub counted : List Term
  pub fewer : IsSubset counted (short_hyps q)
  pub under_way : IsUnderWay (walk_context counted (with_hyps q (long_hyps q)) store) w (length w.listing.entries.items)

-- a walk has ended, or a string is a shortest one that refutes the problem
abbrev pub IsOutcome : ProblemParts → NodeParts → Outcome → Type 0
IsOutcome q store (Alike w) = HasEnded q store w
IsOutcome q store (Refuted x) = IsShortest q x

-- the diagrams and the derivatives of the walk are those of a walk of the problem over the store
pub record MayBegin (q : ProblemParts) (store : NodeParts) (w : TestedWorklist) : Type 0 where
  pub tests : w.diagrams.tests ≡ q.tests
  pub right : AreRight store w.diagrams w.derivatives

-- The walk has ended, a string is a shortest one that refutes the problem, or fewer hypotheses do not count and the next
-- walk may begin.
abbrev pub IsTurnEnd : ProblemParts → NodeParts → TestedWorklist → List Bool → List Bool → TurnEnd → Type 0
IsTurnEnd q store w before after TurnAlike = HasEnded q store w
IsTurnEnd q store w before after (TurnRefuted x) = IsShortest q x
IsTurnEnd q store w before after Again = (uncounted after < uncounted before) × MayBegin q store w
