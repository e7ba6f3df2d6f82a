use Rattle.std.proofs.Common.{length}
use Rattle.text_parser.proofs.Slices.{slices_from, places_ascend}
use Rattle.text_parser.proofs.laws.tokens_are_slices.Goals as goal

pub returns-clause-slices : goal.returns-clause-slices
returns-clause-slices c text ms lexed = slices_from text 0 ms (length text) lexed.tokens

pub returns-clause-ascend : goal.returns-clause-ascend
returns-clause-ascend c text ms lexed = places_ascend text 0 ms (length text) lexed.tokens
