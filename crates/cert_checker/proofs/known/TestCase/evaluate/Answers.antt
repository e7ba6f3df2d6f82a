use Rattle.std.proofs.Common.{◌≡◌, length, take, drop, sym, ap, ◌∙◌, subst, arith}
use Rattle.std.specs.Vec.{with_items}
use Rattle.std.proofs.lemmas.List.{with_items_is}
use Rattle.cert_checker.specs.Cases.{AreQueried, known_of}
use Rattle.cert_checker.specs.Questions.{QuestionParts, ActionPassParts}
use Rattle.cert_checker.proofs.KnownTruths.{case_given}
use Rattle.cert_checker.proofs.known.TestCase.evaluate.Goals as goal

pub evaluate-requires-clause-queried : goal.evaluate-requires-clause-queried
evaluate-requires-clause-queried c =
    let q = c.args.question.now in
    let at_tables : c.question.inside.tables.now ≡ q.tables = ap (λ (p : QuestionParts). p.tables) c.question.view_is in
    let listed : c.deref-2.result.now ≡ q.queried = c.deref-2.ensures.value ∙ ap (λ (p : QuestionParts). p.queried) c.question.view_is in
    subst (λ z. AreQueried z c.deref-2.result.now) (sym at_tables) (subst (AreQueried q.tables) (sym listed) c.requires.question.named.queried)

pub evaluate-requires-2-clause-queried : goal.evaluate-requires-2-clause-queried
evaluate-requires-2-clause-queried c =
    let q = c.args.question.now in
    let at_tables : c.question.inside.tables.now ≡ q.tables = ap (λ (p : QuestionParts). p.tables) c.question.view_is in
    let listed : c.deref-3.result.now ≡ q.action_pass.begin = c.deref-3.ensures.value ∙ ap (λ (p : ActionPassParts). p.begin) c.pass.view_is ∙ ap (λ (p : QuestionParts). p.action_pass.begin) c.question.view_is in
    subst (λ z. AreQueried z c.deref-3.result.now) (sym at_tables) (subst (AreQueried q.tables) (sym listed) c.requires.question.question.begin)

pub evaluate-requires-3-clause-queried : goal.evaluate-requires-3-clause-queried
evaluate-requires-3-clause-queried c =
    let q = c.args.question.now in
    let at_tables : c.question.inside.tables.now ≡ q.tables = ap (λ (p : QuestionParts). p.tables) c.question.view_is in
    let listed : c.deref-4.result.now ≡ q.action_pass.end = c.deref-4.ensures.value ∙ ap (λ (p : ActionPassParts). p.end) c.pass.view_is ∙ ap (λ (p : QuestionParts). p.action_pass.end) c.question.view_is in
    subst (λ z. AreQueried z c.deref-4.result.now) (sym at_tables) (subst (AreQueried q.tables) (sym listed) c.requires.question.question.end)

pub returns-clause-known : goal.returns-clause-known
returns-clause-known c =
    let q = c.args.question.now in
    let own = c.question.inside in
    let action_pass = c.pass.inside in
    let ds = c.args.self.now.decided.items in
    let begins = c.resize.new.self in
    let ends = c.resize-2.new.self in
    let first = c.evaluate.new.known in
    let begin = c.evaluate-2.new.known in
    let end = c.evaluate-3.new.known in
    let at_width = ap (λ (p : QuestionParts). p.tables.width) c.question.view_is in
    let at_queried : c.deref-2.result.now ≡ q.queried = c.deref-2.ensures.value ∙ ap (λ (p : QuestionParts). p.queried) c.question.view_is in
    let at_begin : c.deref-3.result.now ≡ q.action_pass.begin = c.deref-3.ensures.value ∙ ap (λ (p : ActionPassParts). p.begin) c.pass.view_is ∙ ap (λ (p : QuestionParts). p.action_pass.begin) c.question.view_is in
    let at_end : c.deref-4.result.now ≡ q.action_pass.end = c.deref-4.ensures.value ∙ ap (λ (p : ActionPassParts). p.end) c.pass.view_is ∙ ap (λ (p : QuestionParts). p.action_pass.end) c.question.view_is in
    let width : c.width.result ≡ q.tables.width = c.width.ensures ∙ at_width in
    let front : c.split_at.result.0.now ≡ take q.tables.width ds = c.split_at.ensures.front ∙ (λ i. take (width i) (c.deref.ensures.value i)) in
    let back : c.split_at.result.1.now ≡ drop q.tables.width ds = c.split_at.ensures.back ∙ (λ i. drop (width i) (c.deref.ensures.value i)) in
    let one : length first ≡ begins.len = omega (arith, c.evaluate.ensures.room, c.deref_mut.ensures.len) in
    let two : length begin ≡ begins.len = omega (arith, c.evaluate-2.ensures.room, c.deref_mut-2.ensures.len) in
    let three : length end ≡ ends.len = omega (arith, c.evaluate-3.ensures.room, c.deref_mut-3.ensures.len) in
    case_given q own.tables.now c.deref-2.result.now c.deref-3.result.now c.deref-4.result.now ds c.split_at.result.0.now c.split_at.result.1.now c.width-2.result first begin end _
    (ap (λ (p : QuestionParts). p.tables) c.question.view_is) at_queried at_begin at_end front back (c.width-2.ensures ∙ at_width)
    c.evaluate.ensures.known c.evaluate-2.ensures.known
    (λ k h. c.evaluate-2.ensures.others k h ∙ ap (λ l. known_of l k) (c.deref_mut-2.ensures.value ∙ with_items_is begins first one))
    c.evaluate-3.ensures.known (sym (with_items_is (with_items begins first) begin two)) (sym (with_items_is ends end three))

pub evaluate-requires-clause-room : goal.evaluate-requires-clause-room
evaluate-requires-clause-room c = omega (arith, c.deref_mut.ensures.len, c.in_ok-resize.ensures.len, c.test_count.ensures.value)

pub evaluate-requires-2-clause-room : goal.evaluate-requires-2-clause-room
evaluate-requires-2-clause-room c = omega (arith, c.deref_mut-2.ensures.len, c.in_ok-resize.ensures.len, c.test_count.ensures.value)

pub evaluate-requires-3-clause-room : goal.evaluate-requires-3-clause-room
evaluate-requires-3-clause-room c = omega (arith, c.deref_mut-3.ensures.len, c.in_ok-resize-2.ensures.len, c.test_count-2.ensures.value)

pub evaluate-requires-3-clause-narrow : goal.evaluate-requires-3-clause-narrow
evaluate-requires-3-clause-narrow c = omega (arith, c.width-2.ensures)
