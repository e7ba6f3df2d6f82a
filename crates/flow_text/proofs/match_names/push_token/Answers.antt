use Rattle.std.proofs.Common.{◌≡◌, ◌++◌, Option, subst}
use Rattle.std.specs.Prelude.{OnOk}
use Rattle.text_parser.specs.TokenParts.{parts_of_token}
use Rattle.flow_text.specs.declared.meaning.Meaning.{Meaning}
use Rattle.flow_text.specs.MatchNames.{names_meant}
use Rattle.flow_text.specs.MatchViews.{names_parts}
use Rattle.flow_text.proofs.match_names.push_token.Goals as goal

pub returns : goal.returns
returns c =
    subst (λ (m : Option Meaning). OnOk c.push_meant.result (names_parts c.push_meant.new.names.items ≡ names_parts c.args.names.now.items ++ names_meant c.args.part c.args.is_set (parts_of_token c.args.token.now) m))
    c.meaning-meaning.ensures c.push_meant.ensures
