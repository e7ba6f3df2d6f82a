-- Trees whose parts have numbers in a list of nodes.
use Rattle.kat_model.specs.Trees.{TestTree, bottom, top, prim, complement, meet, join, Term, zero, one, test, act, sum, product, star}
use Rattle.term_nodes.specs.NodeLists.{NodeParts}
use Rattle.term_nodes.specs.NodeTrees.{HasTestTree, HasTree}

-- some numbers have the parts of the tree of a test
abbrev pub HasTestParts : NodeParts → TestTree → Type 0
HasTestParts nodes bottom = Unit {0}
HasTestParts nodes top = Unit {0}
HasTestParts nodes (prim k) = Unit {0}
HasTestParts nodes (complement b) = HasTestTree nodes b
HasTestParts nodes (meet b c) = HasTestTree nodes b × HasTestTree nodes c
HasTestParts nodes (join b c) = HasTestTree nodes b × HasTestTree nodes c

-- and those of the tree of a term
abbrev pub HasParts : NodeParts → Term → Type 0
HasParts nodes zero = Unit {0}
HasParts nodes one = Unit {0}
HasParts nodes (test b) = HasTestTree nodes b
HasParts nodes (act a) = Unit {0}
HasParts nodes (sum e f) = HasTree nodes e × HasTree nodes f
HasParts nodes (product e f) = HasTree nodes e × HasTree nodes f
HasParts nodes (star e) = HasTree nodes e
