use Rattle.std.proofs.Common.{sym, ap, ◌∙◌}
use Rattle.std.specs.FinMap.{get}
use Rattle.text_parser.specs.ScopeParts.{Meanings}
use Rattle.text_parser.proofs.MeaningEntries.{get-meanings_of}
use Rattle.text_parser.proofs.names.Names.meaning.Goals as goal

pub returns : goal.returns
returns c = c.copied.ensures ∙ c.get.ensures.value ∙ sym (get-meanings_of c.self.inside.meanings c.args.name.now) ∙ ap (λ (m : Meanings). get m c.args.name.now) c.self.view_is
