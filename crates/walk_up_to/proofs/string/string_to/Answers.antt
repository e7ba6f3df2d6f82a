use Rattle.std.proofs.Common.{rules, ◌≡◌, ℕ, Bool, List, [], ◌∷◌, ◌++◌, ap, ◌∙◌}
use Rattle.kat_model.specs.Strings.{Move}
use Rattle.walk_up_to.specs.Walks.{StepOrigin}
use Rattle.walk_up_to.proofs.StepsBack.{string_of, spelling_goes_on, spelling_last}
use Rattle.walk_up_to.proofs.string.string_to.Goals as goal

pub loop-origin-preserved : goal.loop-origin-preserved
loop-origin-preserved c =
    let o : StepOrigin = c.in-Some.origin.now in
    let view = c.origin.view_is in
    let moves : List Move = c.loop-origin.moves.items in
    let copied : c.in_ok-before.before.items ≡ c.as_slice.result.now = search rules in
    let atom : c.replace.new.dest.items ≡ o.atom = ap (λ v. v.items) c.replace.ensures.after ∙ copied ∙ c.as_slice.ensures ∙ ap (λ (p : StepOrigin). p.atom) view in
    let before : c.of-atom.result ≡ c.loop-origin.first.items = c.of-atom.ensures ∙ ap (λ v. v.items) c.replace.ensures.value in
    spelling_goes_on c.args.pairs.now c.args.place c.args.last.items c.loop-origin.place c.loop-origin.first.items moves o c.requires.traced c.loop-origin.invariant c.in-Some.ensures
    c.origin.inside.place c.replace.new.dest.items c.append.new.list.items
    (ap (λ (p : StepOrigin). p.place) view) atom
    (c.in_ok-append.ensures
    ∙ ap (λ (a : ℕ). moves ++ record { act = a; atom = c.of-atom.result } ∷ []) (ap (λ (p : StepOrigin). p.act) view)
    ∙ ap (λ (t : List Bool). moves ++ record { act = o.act; atom = t } ∷ []) before)

pub returns : goal.returns
returns c =
    let found = spelling_last c.args.pairs.now c.args.place c.args.last.items c.loop-origin.place c.loop-origin.first.items c.loop-origin.moves.items c.requires.traced c.loop-origin.invariant c.in_default.ensures in
    let rest : c.of-2.result ≡ _ = c.of-2.ensures ∙ c.reverse.ensures.items in
    (found.0, found.1, ap (λ f. string_of f c.of-2.result) c.of.ensures ∙ ap (string_of c.loop-origin.first.items) rest ∙ found.2)
