-- Monomials of the program as trees.
use Rattle.linear_forms.specs.Forms.{MonoTree, var, product}
use Rattle.linear_forms.specs.declared.form.Mono.{Mono}
use Rattle.linear_forms.specs.declared.form.Mono.TheVariants.{Var, Product}

-- the tree of a monomial of the program
abbrev pub mono_tree : Mono → MonoTree
mono_tree (Var k) = var k
mono_tree (Product f g) = product f.value g.value
