use Rattle.std.proofs.Common.{◌++◌, [], ◌∷◌, ◌∙◌, map, ap}
use Rattle.std.proofs.lemmas.List.{map-append}
use Rattle.kat_model.specs.Trees.{kat_tree}
use Rattle.abstraction.proofs.file_abstract.push_parts.Goals as goal

pub returns-clause-rule : goal.returns-clause-rule
returns-clause-rule c = c.in_ok-push.ensures.items ∙ ap (λ r. c.args.rules.now.items ++ r ∷ []) c.into_parts-rule.ensures.rule

pub returns-clause-term : goal.returns-clause-term
returns-clause-term c =
    ap (map kat_tree) c.in_ok-push-2.ensures.items ∙ map-append kat_tree c.args.terms.now.items _
    ∙ ap (λ t. map kat_tree c.args.terms.now.items ++ t ∷ []) c.into_parts-rule.ensures.term
