use Rattle.std.proofs.Common.{◌≡◌, ◌<◌, ◌∙◌, sym, length, arith}
use Rattle.std.proofs.lemmas.Bool.{false≢true, both_ways}
use Rattle.while_lang.specs.ProgramViews.{list_tree}
use Rattle.while_lang.proofs.ProgramLists.{same_length, same_at, same_more}
use Rattle.while_lang.proofs.prog.+equals.Goals as goal

pub Prog::same-returns-then-len : goal.Prog::same-returns-then-len
Prog::same-returns-then-len t c =
    let xs = c.self.inside.list.items in
    let ys = c.other.inside.list.items in (
      (λ h. absurd (false≢true h)),
      (λ e. let same : list_tree xs ≡ list_tree ys = c.self.view_is ∙ e ∙ sym c.other.view_is in
          absurd (c.if-len.true (c.len.ensures ∙ c.self.inside.list.ok.0 ∙ same_length xs ys same ∙ sym c.other.inside.list.ok.0 ∙ sym c.len-2.ensures))),
    )

pub Prog::same-returns-then-not-same_stmt : goal.Prog::same-returns-then-not-same_stmt
Prog::same-returns-then-not-same_stmt t c =
    let xs = c.self.inside.list.items in
    let ys = c.other.inside.list.items in (
      (λ h. absurd (false≢true h)),
      (λ e. let same : list_tree xs ≡ list_tree ys = c.self.view_is ∙ e ∙ sym c.other.view_is in
          let lt : c.loop-i.i < length xs = omega (arith, c.loop-i-test.true, c.len-i-end.ensures, c.self.inside.list.ok.0) in
          let le : c.loop-i.i < length ys = omega (arith, lt, same_length xs ys same) in
          absurd (both_ways c.same_stmt.result c.if-not-same_stmt.true (c.same_stmt.ensures.1 (same_at xs ys c.loop-i.i c.index.result.now c.index-in-loop-i.result.now lt le c.index.ensures c.index-in-loop-i.ensures same)))),
    )

pub Prog::same-loop-i-preserved : goal.Prog::same-loop-i-preserved
Prog::same-loop-i-preserved t c =
    let xs = c.self.inside.list.items in
    let ys = c.other.inside.list.items in
    let lt : c.loop-i.i < length xs = omega (arith, c.loop-i-test.true, c.len-i-end.ensures, c.self.inside.list.ok.0) in
    let le : c.loop-i.i < length ys = omega (arith, lt, c.if-len.false, c.len.ensures, c.len-2.ensures, c.self.inside.list.ok.0, c.other.inside.list.ok.0) in
    same_more xs ys c.loop-i.i c.index.result.now c.index-in-loop-i.result.now lt le c.index.ensures c.index-in-loop-i.ensures
    (c.same_stmt.ensures.0 c.if-not-same_stmt.false) c.loop-i.invariant
