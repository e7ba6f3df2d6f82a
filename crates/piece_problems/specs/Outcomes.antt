-- The problem of a piece, or the reason why it has none.
use Rattle.std.specs.Prelude.{◌≡◌, true, false, List, map}
use Rattle.flow_model.specs.declared.sort.Sort.{Sort}
use Rattle.flow_model.specs.Graphs.{Pair}
use Rattle.flow_model.specs.Matches.{Match}
use Rattle.flow_forms.specs.Comparisons.{comparison_tree}
use Rattle.flow_edges.specs.EdgeViews.{flow_action}
use Rattle.flow_problem.specs.FlowFacts.{flow_hypotheses}
use Rattle.flow_pieces.specs.Exits.{piece_exits, is_ambiguous}
use Rattle.flow_pieces.specs.SameTexts.{has_same_text}
use Rattle.flow_matches.specs.Outcomes.{ShareColumn}
use Rattle.flow_abstraction.specs.Abstracts.{flow_problem_of}
use Rattle.flow_abstraction.specs.HypothesisViews.{flow_rule}
use Rattle.piece_problems.specs.Questions.{IsRefused, AskedMatch, piece_question, HasGraphs, HasPieceProblem}
use Rattle.piece_problems.specs.declared.problem.PieceProblem.{PieceProblem}
use Rattle.piece_problems.specs.declared.problem.PieceProblem.TheVariants.{SameText, Found, Ambiguous, Refused}

-- What the piece of a match has: the same text, a problem, two exits, of the matches of these numbers, that share a block
-- of the second graph, or a question that is refused for a reason.
abbrev pub IsProblemOf : Pair → List Match → AskedMatch → PieceProblem → Type 0
IsProblemOf p ms a SameText = has_same_text p ms a.match ≡ true
IsProblemOf p ms a (Found found) = HasPieceProblem p ms a (flow_problem_of found)
IsProblemOf p ms a (Ambiguous i j) =
    (has_same_text p ms a.match ≡ false) × (is_ambiguous (piece_exits p ms a.match) ≡ true) × ShareColumn ms (piece_exits p ms a.match) i j
IsProblemOf p ms a (Refused fault) = HasGraphs p ms a × IsRefused (piece_question p ms a) fault

-- a problem comes with the reason of each of its hypotheses
abbrev pub HasRules : List Sort → PieceProblem → Type 0
HasRules sorts (Found found) =
    map flow_rule found.rules.items ≡ map (λ h. h.rule) (flow_hypotheses sorts (map comparison_tree found.tests.items) (map flow_action found.actions.items))
HasRules sorts _ = Unit {0}
