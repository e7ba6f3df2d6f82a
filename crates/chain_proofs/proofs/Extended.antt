-- A chain extended by a line at its end.
use Rattle.std.proofs.Common.{◌≡◌, ℕ, List, [], ◌∷◌, ◌++◌, Option, None, Some, refl, ap, ◌∙◌}
use Rattle.kat_model.specs.Trees.{Term, kat_tree}
use Rattle.chain_rules.specs.Chains.{ChainTree}
use Rattle.chain_rules.specs.ChainViews.{with_line, unboxed, chain_tree}
use Rattle.chain_rules.specs.declared.chain.Axiom.{Axiom}
use Rattle.chain_rules.specs.declared.chain.Line.{Line}
use Rattle.chain_proofs.specs.ChainMaking.{extended}

extended_line : (e : Term) (r : Axiom) (p : List ℕ) (i : Option ChainTree) (rest : ChainTree) (f : Term) (rule : Axiom) (path : List ℕ) (inner : Option ChainTree) → with_line e r p i (extended rest f rule path inner) ≡ extended (with_line e r p i rest) f rule path inner
extended_line e r p None rest f rule path inner = refl
extended_line e r p (Some c) rest f rule path inner = refl

extended_tree : (e : Term) (ls : List Line) (l : Line) → chain_tree e (ls ++ l ∷ []) ≡ extended (chain_tree e ls) (kat_tree l.next) l.rule l.path.items (unboxed l.inner)
extended_tree e [] l = refl
extended_tree e (k ∷ ls) l =
    ap (with_line e k.rule k.path.items (unboxed k.inner)) (extended_tree (kat_tree k.next) ls l)
    ∙ extended_line e k.rule k.path.items (unboxed k.inner) (chain_tree (kat_tree k.next) ls) (kat_tree l.next) l.rule l.path.items (unboxed l.inner)

pub line_added : (first : Term) (own new : List Line) (l : Line) (whole : ChainTree) → chain_tree first own ≡ whole → new ≡ own ++ l ∷ [] → chain_tree first new ≡ extended whole (kat_tree l.next) l.rule l.path.items (unboxed l.inner)
line_added first own new l whole view more =
    ap (λ (ls : List Line). chain_tree first ls) more
    ∙ extended_tree first own l
    ∙ ap (λ (w : ChainTree). extended w (kat_tree l.next) l.rule l.path.items (unboxed l.inner)) view
