-- A chain has more lines than each chain inside it.
use Rattle.std.specs.Prelude.{◌≤◌, ℕ, List, [], ◌∷◌, Option, None, Some}
use Rattle.std.proofs.Common.{arith}
use denote.Param.Weighed.{most}
use Rattle.kat_model.specs.Trees.{Term, kat_tree}
use Rattle.chain_rules.specs.Chains.{ChainTree, lines_count}
use Rattle.chain_rules.specs.ChainViews.{with_line, unboxed, chain_tree}
use Rattle.chain_rules.specs.declared.chain.Axiom.{Axiom}
use Rattle.chain_rules.specs.declared.chain.Line.{Line}
use Rattle.chain_rules.specs.declared.chain.Chain.TheDeep.{deep-Line}

line_falls : (e : Term) (l : Line) (rest : ChainTree) → deep-Line l ≤ lines_count (with_line e l.rule l.path.items (unboxed l.inner) rest)
line_falls e l rest =
    elim l.inner as (λ o. deep-Line (record l { inner = o }) ≤ lines_count (with_line e l.rule l.path.items (unboxed o) rest)) [
      | None ↦ omega arith
      | Some b ↦ omega arith
    ]

rest_falls : (e : Term) (rule : Axiom) (path : List ℕ) (inner : Option ChainTree) (rest : ChainTree) → lines_count rest ≤ lines_count (with_line e rule path inner rest)
rest_falls e rule path None rest = omega arith
rest_falls e rule path (Some c) rest = omega arith

pub lines_fall : (e : Term) (ls : List Line) → most (λ l. deep-Line l) ls ≤ lines_count (chain_tree e ls)
lines_fall e [] = omega arith
lines_fall e (l ∷ ls) =
    let rest = chain_tree (kat_tree l.next) ls in
    omega (arith, lines_fall (kat_tree l.next) ls, line_falls e l rest, rest_falls e l.rule l.path.items (unboxed l.inner) rest)
