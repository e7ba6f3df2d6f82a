-- Partial derivatives of terms (Antimirov 1996; with tests Kozen 2008, Pous 2015): what a term accepts under an atom,
-- and the terms that remain of it after an action.
use Rattle.std.specs.Prelude.{ℕ, Bool, true, false, not, ◌&&◌, ◌||◌, eqb, if◌then◌else◌, List, [], ◌∷◌, ◌++◌, map, slice_index_or}
use Rattle.std.specs.List.{list_any, flat_map}
use Rattle.kat_model.specs.Trees.{TestTree, bottom, top, prim, complement, meet, join, Term, zero, one, test, act, sum, product, star}

-- truth values, one for each primitive test
abbrev pub Atom : Type 0
Atom = List Bool

-- whether the atom satisfies the test
abbrev pub truth : TestTree → Atom → Bool
truth bottom atom = false
truth top atom = true
truth (prim k) atom = slice_index_or atom k false
truth (complement b) atom = not (truth b atom)
truth (meet b c) atom = truth b atom && truth c atom
truth (join b c) atom = truth b atom || truth c atom

-- the product of two terms, but only the second term if the first is `one`
abbrev pub dot : Term → Term → Term
dot one f = f
dot zero f = product zero f
dot (test b) f = product (test b) f
dot (act a) f = product (act a) f
dot (sum e g) f = product (sum e g) f
dot (product e g) f = product (product e g) f
dot (star e) f = product (star e) f

-- whether the term accepts the atom
abbrev pub out : Term → Atom → Bool
out zero atom = false
out one atom = true
out (test b) atom = truth b atom
out (act a) atom = false
out (sum e f) atom = out e atom || out f atom
out (product e f) atom = out e atom && out f atom
out (star e) atom = true

-- the terms that may remain of a term after an action under an atom
abbrev pub next : Term → Atom → ℕ → List Term
next zero atom a = []
next one atom a = []
next (test b) atom a = []
next (act b) atom a = if eqb a b then one ∷ [] else []
next (sum e f) atom a = next e atom a ++ next f atom a
next (product e f) atom a = map (λ x. dot x f) (next e atom a) ++ (if out e atom then next f atom a else [])
next (star e) atom a = map (λ x. dot x (star e)) (next e atom a)

-- a set of terms accepts an atom if some member does; its next terms (`set_next`) are those of its members
abbrev pub set_out : List Term → Atom → Bool
set_out es atom = list_any (λ e. out e atom) es

abbrev pub set_next : List Term → Atom → ℕ → List Term
set_next es atom a = flat_map (λ e. next e atom a) es

-- the terms that steps can lead to
abbrev pub reach : Term → List Term
reach zero = []
reach one = []
reach (test b) = []
reach (act a) = one ∷ []
reach (sum e f) = reach e ++ reach f
reach (product e f) = map (λ x. dot x f) (reach e) ++ reach f
reach (star e) = map (λ x. dot x (star e)) (reach e)
