use Rattle.std.proofs.Common.{◌≡◌, List, [], ◌∷◌, ◌++◌, map, ap, ◌∙◌}
use Rattle.std.proofs.lemmas.Result.{on_ok_weaker}
use Rattle.std.proofs.lemmas.List.{map-append}
use Rattle.while_lang.specs.ProgramViews.{stmt_tree}
use Rattle.while_lang.specs.declared.prog.Stmt.{Stmt}
use Rattle.while_lang.proofs.prog.push_stmt.Goals as goal

pushed : (old new : List Stmt) (s : Stmt) → new ≡ old ++ s ∷ [] → map stmt_tree new ≡ map stmt_tree old ++ stmt_tree s ∷ []
pushed old new s e = ap (map stmt_tree) e ∙ map-append stmt_tree old (s ∷ [])

pub returns : goal.returns
returns c = on_ok_weaker c.append.result (pushed c.args.list.now.items c.append.new.list.items c.args.stmt) c.append.ensures
