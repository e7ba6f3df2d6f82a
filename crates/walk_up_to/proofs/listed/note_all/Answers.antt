use Rattle.std.proofs.Common.{◌≡◌, ℕ, List, Some, slice_get, get_or, true, false, sym, ◌∙◌, subst, below_more}
use Rattle.std.proofs.lemmas.Option.{same_Some}
use Rattle.walk_up_to.proofs.Closures.{at_read, all_members}
use Rattle.walk_up_to.proofs.listed.note_all.Goals as goal

pub loop-term-preserved : goal.loop-term-preserved
loop-term-preserved c =
    let now = c.loop-term.invariant in
    let given = c.in_ok-note.ensures in
    let terms : List ℕ = c.args.terms.now in
    let i = c.loop-term.term-index in
    let t : ℕ = c.term-item.result in
    let read : slice_get terms i ≡ Some t = at_read terms i t c.loop-term-test.true c.term-item.is in
    record {
      kept = λ j e. given.kept j (now.kept j e);
      noted = below_more (λ k. (u : ℕ) → slice_get terms k ≡ Some u → get_or c.note.new.marks.items u false ≡ true) i
          (λ k low u at. given.kept u (now.noted k low u at))
          (λ u at. subst (λ x. get_or c.note.new.marks.items x false ≡ true) (same_Some t u (sym read ∙ at)) given.noted);
    }

pub returns-clause-noted : goal.returns-clause-noted
returns-clause-noted c = all_members (λ t. get_or c.loop-term.marks.items t false ≡ true) c.args.terms.now c.loop-term.term-index c.loop-term-test.false c.loop-term.invariant.noted
