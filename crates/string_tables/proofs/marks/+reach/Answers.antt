use Rattle.std.proofs.Common.{sym, ◌∙◌}
use Rattle.kat_model.specs.Trees.{kat_tree}
use Rattle.string_tables.specs.Working.Marks.{mark_tree}
use Rattle.string_tables.proofs.MarkedTerms.{rests}
use Rattle.string_tables.proofs.marks.+reach.Goals as goal

pub returns-then-is_nowhere : goal.returns-then-is_nowhere
returns-then-is_nowhere t c = rests c.args.atom.now (kat_tree c.args.term.now) (mark_tree c.args.marks.now) c.args.begins c.if-not-begins.true (sym c.is_nowhere.ensures ∙ c.if-is_nowhere.true)
