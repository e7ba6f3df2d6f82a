-- Graphs with their results, one more.
use Rattle.std.proofs.Common.{◌≡◌, ◌<◌, ◌≤◌, ℕ, ◌+◌, List, [], ◌∷◌, ◌++◌, length, drop, get_or, map, Some, Result, Ok, Err, sym, ap, subst, ◌∙◌}
use Rattle.std.specs.Prelude.{Vec}
use Rattle.std.specs.declared.alloc.Global.{Global}
use Rattle.std.proofs.lemmas.List.{map-append, length-map, drop_more, drop_all}
use Rattle.text_parser.specs.declared.fault.TextFault.{TextFault}
use Rattle.text_parser.specs.Parsed.{◌>>=◌, Makes}
use Rattle.flow_model.specs.declared.sort.Sort.{Sort}
use Rattle.flow_model.specs.declared.graph.Block.{Block}
use Rattle.flow_model.specs.Graphs.{Graph}
use Rattle.flow_text.specs.Trees.{graph_of}
use Rattle.flow_syntax.specs.Syntax.{ItemSyntax}
use Rattle.flow_text.specs.declared.known.WrittenGraph.{WrittenGraph}
use Rattle.flow_text.specs.Scopes.{ScopeParts}
use Rattle.flow_text.specs.KnownViews.{graph_syntax}
use Rattle.flow_text.specs.declared.reading.FlowFile.{FlowFile}
use Rattle.flow_text.specs.DeclaredNames.{variable_names, function_names}
use Rattle.flow_text.specs.FileViews.{graphs_of, file_parts}
use Rattle.flow_text.specs.Checking.{GraphSyntax, next_graph, graphs_after, Known, nothing_known, items_known, with_goal, file_of}

module _ (s : ScopeParts) (goal : ℕ × ℕ) (shared : List Sort) where
  pub graph_made : (made : List (Vec Block Global)) (k : ℕ) (g : GraphSyntax) (gs : List GraphSyntax) (x : Vec Block Global) → length made ≡ k → next_graph s goal shared k g ≡ Ok (graph_of x.items) → graphs_after s goal shared (graphs_of made) (g ∷ gs) ≡ graphs_after s goal shared (graphs_of (made ++ x ∷ [])) gs
  graph_made made k g gs x count e =
      ap (λ n. next_graph s goal shared n g >>= λ y. graphs_after s goal shared (graphs_of made ++ y ∷ []) gs) (length-map made (λ (v : Vec Block Global). graph_of v.items) ∙ count)
      ∙ ap (λ (m : Result Graph TextFault). m >>= λ y. graphs_after s goal shared (graphs_of made ++ y ∷ []) gs) e
      ∙ ap (λ hs. graphs_after s goal shared hs gs) (sym (map-append (λ (v : Vec Block Global). graph_of v.items) made (x ∷ [])))

  pub graph_refused : (made : List (Vec Block Global)) (k : ℕ) (g : GraphSyntax) (gs : List GraphSyntax) (fault : TextFault) → length made ≡ k → next_graph s goal shared k g ≡ Err fault → graphs_after s goal shared (graphs_of made) (g ∷ gs) ≡ Err fault
  graph_refused made k g gs fault count e =
      ap (λ n. next_graph s goal shared n g >>= λ y. graphs_after s goal shared (graphs_of made ++ y ∷ []) gs) (length-map made (λ (v : Vec Block Global). graph_of v.items) ∙ count)
      ∙ ap (λ (m : Result Graph TextFault). m >>= λ y. graphs_after s goal shared (graphs_of made ++ y ∷ []) gs) e

  -- a turn of the loop, at graph `i`
  pub graph_turn : (made : List (Vec Block Global)) (k : ℕ) (gs : List WrittenGraph) (i : ℕ) (g : WrittenGraph) (x : Vec Block Global) (whole : Result (List Graph) TextFault) → length made ≡ k → i < length gs → g ≡ get_or gs i g → next_graph s goal shared k (graph_syntax g) ≡ Ok (graph_of x.items) → graphs_after s goal shared (graphs_of made) (map graph_syntax (drop i gs)) ≡ whole → graphs_after s goal shared (graphs_of (made ++ x ∷ [])) (map graph_syntax (drop (i + 1) gs)) ≡ whole
  graph_turn made k gs i g x whole count lt is given invariant =
      sym (graph_made made k (graph_syntax g) (map graph_syntax (drop (i + 1) gs)) x count given)
      ∙ ap (λ h. graphs_after s goal shared (graphs_of made) (graph_syntax h ∷ map graph_syntax (drop (i + 1) gs))) is
      ∙ sym (ap (λ l. graphs_after s goal shared (graphs_of made) (map graph_syntax l)) (drop_more gs i g lt)) ∙ invariant

  pub graph_fault : (made : List (Vec Block Global)) (k : ℕ) (gs : List WrittenGraph) (i : ℕ) (g : WrittenGraph) (fault : TextFault) (whole : Result (List Graph) TextFault) → length made ≡ k → i < length gs → g ≡ get_or gs i g → graphs_after s goal shared (graphs_of made) (map graph_syntax (drop i gs)) ≡ whole → next_graph s goal shared k (graph_syntax g) ≡ Err fault → whole ≡ Err fault
  graph_fault made k gs i g fault whole count lt is invariant given =
      sym invariant ∙ ap (λ l. graphs_after s goal shared (graphs_of made) (map graph_syntax l)) (drop_more gs i g lt)
      ∙ sym (ap (λ h. graphs_after s goal shared (graphs_of made) (graph_syntax h ∷ map graph_syntax (drop (i + 1) gs))) is)
      ∙ graph_refused made k (graph_syntax g) (map graph_syntax (drop (i + 1) gs)) fault count given

  pub no_graph : (made : List (Vec Block Global)) (gs : List WrittenGraph) (i : ℕ) (whole : Result (List Graph) TextFault) → length gs ≤ i → graphs_after s goal shared (graphs_of made) (map graph_syntax (drop i gs)) ≡ whole → whole ≡ Ok (graphs_of made)
  no_graph made gs i whole past invariant = sym invariant ∙ ap (λ l. graphs_after s goal shared (graphs_of made) (map graph_syntax l)) (drop_all i gs past)

pub ruleset graphs = (graph_made, graph_refused)

-- the file of all items, with their names
pub file_made : (is : List ItemSyntax) (k : Known) (goal : ℕ × ℕ) (vs fs : List (List ℕ)) (r : Result FlowFile TextFault) → items_known nothing_known is ≡ Ok k → k.goal ≡ Some goal → vs ≡ variable_names is → fs ≡ function_names is → Makes (Unit {0}) file_parts r (with_goal vs fs k (Some goal)) → Makes (Unit {0}) file_parts r (file_of is)
file_made is k goal vs fs r known expected variables functions makes =
    subst (Makes (Unit {0}) file_parts r)
    (ap (with_goal vs fs k) (sym expected) ∙ ap (λ v. with_goal v fs k k.goal) variables ∙ ap (λ f. with_goal (variable_names is) f k k.goal) functions
    ∙ sym (ap (λ (m : Result Known TextFault). m >>= λ l. with_goal (variable_names is) (function_names is) l l.goal) known))
    makes
