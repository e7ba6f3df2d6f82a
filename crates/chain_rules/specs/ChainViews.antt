-- The chains of the program as trees.
use Rattle.std.specs.Prelude.{ℕ, List, [], ◌∷◌, Option, Some, None, Box}
use Rattle.std.specs.Global.{Global}
use Rattle.kat_model.specs.Trees.{Term, kat_tree}
use Rattle.chain_rules.specs.Chains.{ChainTree, alone, equal_by, equal_by_inner}
use Rattle.chain_rules.specs.declared.chain.Axiom.{Axiom}
use Rattle.chain_rules.specs.declared.chain.Line.{Line}

-- a line from a term to the rest of a chain, with or without an inner chain
abbrev pub with_line : Term → Axiom → List ℕ → Option ChainTree → ChainTree → ChainTree
with_line e rule path None rest = equal_by e rule path rest
with_line e rule path (Some inner) rest = equal_by_inner e rule path inner rest

-- the content of a box, if there is one
abbrev pub unboxed : {X : Type 0} → Option (Box X Global) → Option X
unboxed None = None
unboxed (Some b) = Some b.value

-- the chain with this first term and these lines of the program
abbrev pub chain_tree : Term → List Line → ChainTree
chain_tree e [] = alone e
chain_tree e (l ∷ ls) = with_line e l.rule l.path.items (unboxed l.inner) (chain_tree (kat_tree l.next) ls)
