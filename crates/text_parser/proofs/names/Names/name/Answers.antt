use Rattle.std.proofs.Common.{Some, sym, ap, ◌∙◌, subst, string_bytes}
use Rattle.std.specs.Option.{option_map}
use Rattle.std.specs.FinMap.{get}
use Rattle.std.proofs.lemmas.Option.{none-some, same_Some}
use Rattle.text_parser.specs.ScopeParts.{Meanings}
use Rattle.text_parser.specs.Working.Names.{text_of, AreInverse}
use Rattle.text_parser.proofs.names.Names.name.Goals as goal

pub returns-in_err-name-clause-none : goal.returns-in_err-name-clause-none
returns-in_err-name-clause-none c =
    let inverse = subst (λ (m : Meanings). AreInverse (get m) (text_of c.self.inside.texts)) c.self.view_is c.self.invariant in
    rw c.from_residual.ensures (λ name e. none-some name (ap (option_map string_bytes) c.in_err-name.ensures.value ∙ inverse.there name c.args.meaning e))

pub returns-clause-means : goal.returns-clause-means
returns-clause-means c =
    let inverse = subst (λ (m : Meanings). AreInverse (get m) (text_of c.self.inside.texts)) c.self.view_is c.self.invariant in
    inverse.back c.args.meaning c.as_str.result.now (sym (ap (option_map string_bytes) c.in_ok-name.ensures.value) ∙ ap Some (sym c.as_str.ensures.value))

pub returns-clause-only : goal.returns-clause-only
returns-clause-only c = λ other e.
    let inverse = subst (λ (m : Meanings). AreInverse (get m) (text_of c.self.inside.texts)) c.self.view_is c.self.invariant in
    same_Some other c.as_str.result.now (sym (inverse.there other c.args.meaning e) ∙ sym (ap (option_map string_bytes) c.in_ok-name.ensures.value) ∙ ap Some (sym c.as_str.ensures.value))
