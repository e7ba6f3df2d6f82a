use Rattle.std.proofs.Common.{◌≡◌, ◌==◌, map, lit<}
use Rattle.std.specs.List.{slice_split}
use Rattle.std.proofs.lemmas.Result.{IfOk-at_ok}
use Rattle.std.proofs.lemmas.Iterator.Consumers.{map_from_collect}
use Rattle.std.proofs.lemmas.Iterator.Splits.{YieldsList-from_str_split}
use Rattle.tool_commands.proofs.store_words.items_of.Goals as goal

pub returns : goal.returns
returns c =
    IfOk-at_ok (λ v. map (λ i. i.now) v.items ≡ slice_split (λ b. b == 44) c.args.word.now) c.in_ok-collect.was
    (map_from_collect _ c.collect.ensures.ran (YieldsList-from_str_split 44 c.args.word.now (lit< tt) c.split.ensures.text c.split.ensures.has_more c.split.ensures.pattern))
