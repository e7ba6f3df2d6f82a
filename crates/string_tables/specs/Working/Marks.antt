-- The actions of a term that the last move of a string may have been, as marks (its positions: Glushkov 1961), in a tree
-- beside the term: a sum and a product have marks for both parts, and a star uses the marks of its body.
use Rattle.std.specs.Prelude.{ℕ, Bool, true, false, cond, ◌&&◌, ◌||◌, eqb}
use Rattle.kat_model.specs.Trees.{Term, zero, one, test, act, sum, product, star}
use Rattle.kat_model.specs.Steps.{Atom, truth}
use Rattle.string_tables.specs.declared.marks.Marks.{Marks}
use Rattle.string_tables.specs.declared.marks.Marks.TheVariants.{Nowhere, Here, Both'}

pub data MarkTree : Type 0 where
  nowhere : MarkTree
  here : MarkTree
  both : (l r : MarkTree) → MarkTree

-- the tree of marks of the program
abbrev pub mark_tree : Marks → MarkTree
mark_tree Nowhere = nowhere
mark_tree Here = here
mark_tree (Both' p l q r) = both (mark_tree l) (mark_tree r)

abbrev pub is_nowhere : MarkTree → Bool
is_nowhere nowhere = true
is_nowhere here = false
is_nowhere (both l r) = false

abbrev pub is_here : MarkTree → Bool
is_here nowhere = false
is_here here = true
is_here (both l r) = false

-- the marks of the first part of a sum or product
abbrev pub left : MarkTree → MarkTree
left nowhere = nowhere
left here = nowhere
left (both l r) = l

-- the marks of the second part
abbrev pub right : MarkTree → MarkTree
right nowhere = nowhere
right here = nowhere
right (both l r) = r

-- the marks of a sum or product from those of its parts
abbrev pub joined : MarkTree → MarkTree → MarkTree
joined l r = cond (is_nowhere l && is_nowhere r) nowhere (both l r)

-- the product of the terms if `chained` is set, and their sum if not
abbrev pub paired : Bool → Term → Term → Term
paired chained e f = cond chained (product e f) (sum e f)

-- whether the end of the term is reached at the atom: from a marked action or, if the term begins here, from its beginning
abbrev pub reached : Term → MarkTree → Bool → Atom → Bool
reached zero marks begins atom = false
reached one marks begins atom = begins
reached (test b) marks begins atom = begins && truth b atom
reached (act a) marks begins atom = is_here marks
reached (sum e f) marks begins atom = reached e (left marks) begins atom || reached f (right marks) begins atom
reached (product e f) marks begins atom = reached f (right marks) (reached e (left marks) begins atom) atom
reached (star e) marks begins atom = begins || reached e marks false atom

-- the marks after a move by action a from the atom
abbrev pub moved : Term → MarkTree → Bool → Atom → ℕ → MarkTree
moved zero marks begins atom a = nowhere
moved one marks begins atom a = nowhere
moved (test b) marks begins atom a = nowhere
moved (act b) marks begins atom a = cond (begins && eqb a b) here nowhere
moved (sum e f) marks begins atom a = joined (moved e (left marks) begins atom a) (moved f (right marks) begins atom a)
moved (product e f) marks begins atom a =
    joined (moved e (left marks) begins atom a) (moved f (right marks) (reached e (left marks) begins atom) atom a)
moved (star e) marks begins atom a = moved e marks (begins || reached e marks false atom) atom a
