use Rattle.std.proofs.Common.{sym, ap, ◌∙◌, map, unwrap_or}
use Rattle.std.specs.Option.{option_map}
use Rattle.tool_commands.proofs.StoreValues.{numbers_are}
use Rattle.tool_commands.proofs.store_words.store_of.Goals as goal

pub returns-in_ok-numbers_of-in-Some-clause-within : goal.returns-in_ok-numbers_of-in-Some-clause-within
returns-in_ok-numbers_of-in-Some-clause-within c =
    (numbers_are c.args.file.now c.args.word.now c.in-Some.values.items c.in_ok-numbers_of-in-Some.field-0.items
    (sym c.in_ok-values.ensures ∙ ap (option_map (λ v. v.items)) c.in-Some.is)
    (c.in_ok-numbers_of-in-Some.ensures ∙ ap (map (λ v. unwrap_or v 0)) c.deref.ensures.value)).1
