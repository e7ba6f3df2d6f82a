-- What is found of the graphs of the program is found of the file.
use Rattle.std.proofs.Common.{◌≡◌, ℕ, true, List, map, slice_get, inl, inr, refl, sym, ◌∙◌, subst}
use Rattle.flow_model.specs.declared.graph.Block.{Block}
use Rattle.flow_model.specs.Graphs.{Graph}
use Rattle.flow_model.specs.Polish.{graph_of}
use Rattle.flow_ways.specs.Sorted.{IsSortedGraph}
use Rattle.flow_text.specs.Trees as read
use Rattle.flow_text.specs.Checking.{FlowFileParts, graph_or_none, pair_of}
use Rattle.flow_laws.proofs.ReadGraphs.{graph_whole}
use Rattle.flow_model.specs.WholeGraphs.{are_whole_blocks}
use Rattle.flow_abstraction.specs.HypothesisViews.{flow_rule}
use Rattle.flow_problem.specs.FlowProblems.{FlowQuestion}
use Rattle.flow_problem.specs.PlacedProblems.{IsFlowPair, IsFlowProblem}
use Rattle.flow_abstraction.specs.declared.fault.FlowFault.{FlowFault}
use Rattle.flow_abstraction.specs.declared.fault.FlowFault.TheVariants.{NoMemory}
use Rattle.flow_abstraction.specs.declared.question.FlowAbstract.{FlowAbstract}
use Rattle.flow_abstraction.specs.Abstracts.{flow_problem_of}
use Rattle.flow_abstraction.specs.PosedQuestion as blocks
use Rattle.flow_abstraction.specs.PosedQuestion.{posed, HasFault}
use Rattle.tool_flow.specs.FlowFaults.{flow_fault_line}
use Rattle.tool_flow.specs.Questions.{question_of, IsRefused, rules_of, HasNoFlowProblem}
use Rattle.tool_flow.specs.Working.Found.{IsFound}
use Rattle.tool_flow.specs.Working.Reasons.{refused_as_trees, refused_as_blocks}

-- the blocks of both graphs of a file, whose expressions are one tree each
pub record HasBlocks (f : FlowFileParts) (before after : List Block) : Type 0 where
  pub before_graph : graph_of before ≡ graph_or_none (slice_get f.graphs f.before)
  pub after_graph : graph_of after ≡ graph_or_none (slice_get f.graphs f.after)
  pub before_whole : are_whole_blocks before ≡ true
  pub after_whole : are_whole_blocks after ≡ true

-- sorted graphs of a file have such blocks
pub has_blocks : (f : FlowFileParts) (before after : List Block) → read.graph_of before ≡ graph_or_none (slice_get f.graphs f.before) → read.graph_of after ≡ graph_or_none (slice_get f.graphs f.after) → IsFlowPair (pair_of f) → HasBlocks f before after
has_blocks f before after first second pair =
    let one = graph_whole f.sorts before (subst (IsSortedGraph f.sorts) (sym first) pair.before_sorted) in
    let other = graph_whole f.sorts after (subst (IsSortedGraph f.sorts) (sym second) pair.after_sorted) in
    record { before_graph = sym one.1 ∙ first; after_graph = sym other.1 ∙ second; before_whole = one.0; after_whole = other.0 }

module _ (f : FlowFileParts) (before after : List Block) (has : HasBlocks f before after) where
  abbrev question : FlowQuestion
  question = blocks.question_of (posed f.sorts before after f.rounds f.splits)

  with_graphs : (g h : Graph) → graph_of before ≡ g → graph_of after ≡ h →
      question ≡ record { pair = record { sorts = f.sorts; before = g; after = h }; rounds = f.rounds; splits = f.splits }
  with_graphs g h d e = rw (d, e) refl

  one_question : question ≡ question_of f
  one_question = with_graphs (graph_or_none (slice_get f.graphs f.before)) (graph_or_none (slice_get f.graphs f.after)) has.before_graph has.after_graph

  unrefused : (fault : FlowFault) → blocks.HasNoFault (posed f.sorts before after f.rounds f.splits) → IsRefused (question_of f) fault → ⊥
  unrefused fault none refused =
      none fault (refused_as_blocks (posed f.sorts before after f.rounds f.splits) has.before_whole has.after_whole fault
      (subst (λ q. IsRefused q fault) (sym one_question) refused))

  pub found_of : (a : FlowAbstract) → IsFlowProblem question (flow_problem_of a) → map flow_rule a.rules.items ≡ rules_of f (flow_problem_of a)
      → blocks.HasNoFault (posed f.sorts before after f.rounds f.splits) → IsFound f a
  found_of a problem rules none = record {
    problem = subst (λ q. IsFlowProblem q (flow_problem_of a)) one_question problem;
    unrefused = λ fault refused. unrefused fault none refused;
    rules = rules;
  }

  pub none_of : (fault : FlowFault) (line : List ℕ) → HasFault (posed f.sorts before after f.rounds f.splits) fault → (fault ≡ NoMemory → ⊥) → line ≡ flow_fault_line fault → HasNoFlowProblem f line
  none_of fault line (inl out) some printed = absurd (some out)
  none_of fault line (inr refused) some printed = record {
    fault = fault;
    reason = inl (subst (λ q. IsRefused q fault) one_question (refused_as_trees (posed f.sorts before after f.rounds f.splits) has.before_whole has.after_whole fault refused));
    printed = printed;
  }
