-- Blocks of a graph checked, one more.
use Rattle.std.proofs.Common.{◌≡◌, ℕ, List, [], ◌∷◌, ◌++◌, length, Option, Result, Ok, Err, sym, ap, ◌∙◌}
use Rattle.std.proofs.lemmas.List.{map-append, length-map}
use Rattle.text_parser.specs.declared.fault.TextFault.{TextFault}
use Rattle.text_parser.specs.Parsed.{◌>>=◌}
use Rattle.flow_model.specs.declared.sort.Sort.{Sort}
use Rattle.flow_model.specs.declared.graph.Block.{Block as Checked}
use Rattle.flow_model.specs.Graphs.{Graph}
use Rattle.flow_model.specs.Graphs as model
use Rattle.flow_text.specs.Trees.{block_of, graph_of}
use Rattle.flow_syntax.specs.declared.written.Block.{Block}
use Rattle.flow_text.specs.Scopes.{ScopeParts}
use Rattle.flow_syntax.specs.SyntaxViews.{block_syntax, blocks_syntax}
use Rattle.flow_text.specs.Checking.{next_block, blocks_after}
use Rattle.flow_syntax.proofs.Stacked.{blocks_push}

module _ (s : ScopeParts) (results : Option (List Sort)) (find : List ℕ → Option ℕ) where
  block_first : (made : Graph) (before : List Block) (b : Block) → blocks_after s results find made (blocks_syntax (before ++ b ∷ [])) ≡ (next_block s results find (length made) (block_syntax b) >>= λ x. blocks_after s results find (made ++ x ∷ []) (blocks_syntax before))
  block_first made before b = ap (blocks_after s results find made) (blocks_push before b)

  pub block_made : (made : List Checked) (k : ℕ) (before : List Block) (b : Block) (x : Checked) → length made ≡ k → next_block s results find k (block_syntax b) ≡ Ok (block_of x) → blocks_after s results find (graph_of made) (blocks_syntax (before ++ b ∷ [])) ≡ blocks_after s results find (graph_of (made ++ x ∷ [])) (blocks_syntax before)
  block_made made k before b x count e =
      block_first (graph_of made) before b
      ∙ ap (λ n. next_block s results find n (block_syntax b) >>= λ y. blocks_after s results find (graph_of made ++ y ∷ []) (blocks_syntax before)) (length-map made block_of ∙ count)
      ∙ ap (λ (m : Result model.Block TextFault). m >>= λ y. blocks_after s results find (graph_of made ++ y ∷ []) (blocks_syntax before)) e
      ∙ ap (λ g. blocks_after s results find g (blocks_syntax before)) (sym (map-append block_of made (x ∷ [])))

  pub block_refused : (made : List Checked) (k : ℕ) (before : List Block) (b : Block) (fault : TextFault) → length made ≡ k → next_block s results find k (block_syntax b) ≡ Err fault → blocks_after s results find (graph_of made) (blocks_syntax (before ++ b ∷ [])) ≡ Err fault
  block_refused made k before b fault count e =
      block_first (graph_of made) before b
      ∙ ap (λ n. next_block s results find n (block_syntax b) >>= λ y. blocks_after s results find (graph_of made ++ y ∷ []) (blocks_syntax before)) (length-map made block_of ∙ count)
      ∙ ap (λ (m : Result model.Block TextFault). m >>= λ y. blocks_after s results find (graph_of made ++ y ∷ []) (blocks_syntax before)) e

pub ruleset blocks = (block_made, block_refused)
