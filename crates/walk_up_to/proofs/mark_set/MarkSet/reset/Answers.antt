use Rattle.std.proofs.Common.{◌≡◌, ℕ, List, Bool, true, false, length, get_or, replicate, ap, ◌∙◌, subst, arith}
use mathlib.Core.Path.{ap₂}
use Rattle.std.proofs.lemmas.List.{with_items_is}
use Rattle.std.proofs.lemmas.Result.{on_ok_weaker}
use Rattle.walk_up_to.specs.Marks.{without_marks, MarkSetParts}
use Rattle.walk_up_to.proofs.Unmarking.{none_left, all_off}
use Rattle.walk_up_to.proofs.mark_set.MarkSet.reset.Goals as goal

pub invariant_of-self : goal.invariant_of-self
invariant_of-self c =
    let marks = c.unmark_all.new.marks in
    let long : length marks ≡ c.self.inside.marks.len = omega (arith, c.deref_mut.ensures.len, c.unmark_all.auto.marks) in
    let left : marks ≡ without_marks c.self.inside.marks.items c.self.inside.terms.items = c.unmark_all.ensures ∙ ap₂ without_marks c.deref_mut.ensures.value c.deref.ensures.value in
    λ k e. absurd (none_left c.self.inside.marks.items c.self.inside.terms.items c.self.invariant k (subst (λ m. get_or m k false ≡ true) (with_items_is c.self.inside.marks marks long ∙ left) (c.set_count.ensures.marks k e)))

pub returns : goal.returns
returns c =
    let marks = c.unmark_all.new.marks in
    let long : length marks ≡ c.self.inside.marks.len = omega (arith, c.deref_mut.ensures.len, c.unmark_all.auto.marks) in
    let left : marks ≡ without_marks c.self.inside.marks.items c.self.inside.terms.items = c.unmark_all.ensures ∙ ap₂ without_marks c.deref_mut.ensures.value c.deref.ensures.value in
    let off : c.set_count.new.marks.items ≡ replicate (length c.set_count.new.marks.items) false =
    all_off c.set_count.new.marks.items (λ k e. none_left c.self.inside.marks.items c.self.inside.terms.items c.self.invariant k (subst (λ m. get_or m k false ≡ true) (with_items_is c.self.inside.marks marks long ∙ left) (c.set_count.ensures.marks k e))) in
    let set : List Bool → List ℕ → MarkSetParts = λ m t. record { marks = m; terms = t } in
    on_ok_weaker c.set_count.result (λ count. ap₂ set (off ∙ ap (λ (n : ℕ). replicate n false) count) c.clear.ensures.items) c.set_count.ensures.count
