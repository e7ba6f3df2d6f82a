use Rattle.std.proofs.Common.{◌≡◌, ◌<◌, ◌+◌, ◌++◌, ◌∷◌, [], List, length, arith, get_or, ◌∙◌, ap}
use Rattle.kat_model.specs.Relations.{Step}
use Rattle.kat_model.specs.Steps.{Atom}
use Rattle.kat_model.specs.Strings.{Move}
use Rattle.string_tables.proofs.OneMoveMore.{steps_from_pushed, atoms_pushed}
use Rattle.string_tables.proofs.table.table_of.Goals as goal

pub loop-k-preserved : goal.loop-k-preserved
loop-k-preserved c =
    let i = c.loop-k.k in
    let ms : List Move = c.as_slice-rest.result.now in
    let lt : i < length ms = omega arith in
    let m : Move = c.index-rest-k.result in
    let is : m ≡ get_or ms i m = c.index-rest-k.is in
    let seen : record { act = c.m.inside.act; atom = c.m.inside.atom } ≡ m = c.m.view_is in
    let atoms : List Atom = c.loop-k.truths.items in
    let steps : List Step = c.loop-k.moves.items in
    let atom : c.m.inside.atom ≡ m.atom = ap (λ (n : Move). n.atom) seen in
    let atoms_are = c.in_ok-push_state.ensures.truths ∙ ap (λ (a : Atom). atoms ++ a ∷ []) atom in
    let steps_are = c.in_ok-push_state.ensures.moves ∙ ap (λ (n : Move). steps ++ (record { from = i; act = n.act; to = i + 1 }) ∷ []) seen in
    record {
      truths = atoms_pushed ms i m c.args.string.now.first atoms c.push_state.new.truths.items lt is c.loop-k.invariant.truths atoms_are;
      moves = steps_from_pushed ms i m steps c.push_state.new.moves.items lt is c.loop-k.invariant.moves steps_are;
    }
