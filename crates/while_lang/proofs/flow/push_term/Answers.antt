use Rattle.std.proofs.Common.{◌≡◌, List, [], ◌∷◌, ◌++◌, map, ap, ◌∙◌}
use Rattle.std.proofs.lemmas.Result.{on_ok_weaker}
use Rattle.std.proofs.lemmas.List.{map-append}
use Rattle.kat_model.specs.Trees.{kat_tree}
use Rattle.kat_model.specs.declared.tree.Kat.{Kat}
use Rattle.while_lang.proofs.flow.push_term.Goals as goal

pushed : (old new : List Kat) (e : Kat) → new ≡ old ++ e ∷ [] → map kat_tree new ≡ map kat_tree old ++ kat_tree e ∷ []
pushed old new e is = ap (map kat_tree) is ∙ map-append kat_tree old (e ∷ [])

pub returns : goal.returns
returns c = on_ok_weaker c.append.result (pushed c.args.terms.now.items c.append.new.list.items c.args.term) c.append.ensures
