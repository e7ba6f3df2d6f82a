-- The lines of the program as the check sees them.
use Rattle.std.specs.Prelude.{List, [], ◌∷◌, Option, None, Some}
use Rattle.std.specs.Option.{option_map}
use Rattle.kat_model.specs.Trees.{Term, kat_tree}
use Rattle.chain_rules.specs.Chains.{Equation, equation, ChainTree, ends_of, LineParts, lines_of}
use Rattle.chain_rules.specs.ChainViews.{unboxed}
use Rattle.chain_rules.specs.declared.chain.Line.{Line}
use Rattle.chain_rules.specs.declared.fixed_points.ChainEnds.{ChainEnds}

-- the equation between two terms of the program
abbrev pub equation_of : ChainEnds → Equation
equation_of ends = equation (kat_tree ends.first.now) (kat_tree ends.last.now)

-- the line after this term
abbrev pub line_parts : Term → Line → LineParts
line_parts before l =
    record {
      before = before;
      after = kat_tree l.next;
      rule = l.rule;
      path = l.path.items;
      inner = option_map ends_of (unboxed l.inner);
    }

abbrev pub inner_lines : Option ChainTree → List LineParts
inner_lines None = []
inner_lines (Some c) = lines_of c

-- the line after this term, and the lines of its inner chain
abbrev pub lines_at : Term → Line → List LineParts
lines_at before l = line_parts before l ∷ inner_lines (unboxed l.inner)
