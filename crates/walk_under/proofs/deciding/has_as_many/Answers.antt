use Rattle.std.proofs.Common.{◌≡◌, List, length, sym, ap, ◌∙◌}
use Rattle.std.proofs.lemmas.Bool.{eqb-true}
use Rattle.kat_model.specs.Strings.{Move, GuardedString}
use Rattle.walk_under.proofs.deciding.has_as_many.Goals as goal

pub returns : goal.returns
returns c t =
    let own : c.as_slice-count.result.now ≡ c.args.string.now.rest = c.as_slice-count.ensures ∙ ap (λ (y : GuardedString). y.rest) c.string.view_is in
    let others : c.as_slice-expected.result.now ≡ c.args.other.now.rest = c.as_slice-expected.ensures ∙ ap (λ (y : GuardedString). y.rest) c.other.view_is in
    ap (λ (l : List Move). length l) (sym own) ∙ eqb-true (length c.as_slice-count.result.now) (length c.as_slice-expected.result.now) t ∙ ap (λ (l : List Move). length l) others
